use Rattle.std.proofs.Common.{refl, subst, sym}
use Rattle.mig_value.specs.View.{typed_of}
use Rattle.mig_path.specs.Path.{Path, Takes}
use Rattle.optic_tests.proofs.tests.a_chain_by_types.Goals as goal

pub turn-requires : goal.turn-requires
turn-requires g c κs = ((refl, tt), subst (λ (o : Path). Takes o (typed_of c.nodes.result)) (sym c.by_types.ensures) c.nodes.ensures)
