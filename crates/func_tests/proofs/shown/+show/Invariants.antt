use Rattle.func_tests.proofs.shown.+show.Given as goal

abbrev pub decreases-show : goal.decreases-show
decreases-show g l = l.levels
