use Rattle.typed_times.proofs.save.Goals as goal

pub returns-in-Ok : goal.returns-in-Ok
returns-in-Ok c = record { save = c.in-Ok.ensures.found; named = c.in-Ok.ensures.spelled.0; map = c.in-Ok.ensures.spelled.1; spelled = c.in-Ok.ensures.spelled.2 }
