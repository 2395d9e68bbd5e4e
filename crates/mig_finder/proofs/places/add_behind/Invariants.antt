use Rattle.std.proofs.Common.{◌≡◌, ◌++◌, map}
use Rattle.mig_optic.specs.AnyView.{any_path}
use Rattle.mig_finder.specs.Places.{behind}
use Rattle.mig_finder.specs.View.{found_of}
use Rattle.mig_finder.proofs.places.add_behind.Given as goal

abbrev pub invariant-loop-found : goal.invariant-loop-found
invariant-loop-found l = map found_of l.list.items ≡ map found_of l.initial.list.items ++ behind (any_path l.optic) (map found_of l.yielded)
