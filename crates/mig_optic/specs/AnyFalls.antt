-- What is inside an optic is smaller.
use Rattle.std.specs.Prelude.{◌≤◌}
use Rattle.std.proofs.Common.{arith}
use Rattle.mig_optic.specs.declared.any_optic.AnyOptic.{AnyOptic}
use Rattle.mig_optic.specs.declared.any_optic.AnyOptic.TheVariants as O
use Rattle.mig_optic.specs.declared.any_optic.OpticBox.TheDeep.{deep-AnyOptic}
use Rattle.mig_optic.specs.Code.{path_size}
use Rattle.mig_optic.specs.AnyView.{any_path}

pub deep_path : (o : AnyOptic) → deep-AnyOptic o ≤ path_size (any_path o)
deep_path (O.Then p q) = omega arith
deep_path o = omega arith
