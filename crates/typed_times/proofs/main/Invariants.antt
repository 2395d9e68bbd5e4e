use Rattle.typed_times.proofs.main.Given as goal

abbrev pub ghosts-run_on_host : goal.ghosts-run_on_host
ghosts-run_on_host a = record { name = a.blank.name; parts = a.blank.parts }
