use Rattle.typed_tests.proofs.tests.read_alone.Given as goal

abbrev pub ghosts-read_and_write : goal.ghosts-read_and_write
ghosts-read_and_write a = record { name = a.blank.name; parts = a.blank.parts }
