use Rattle.mig_value.specs.View.{typed_of}
use Rattle.mig_record_optic.specs.Holes.{name_there}
use Rattle.mig_record_optic.proofs.Openings.{at_name, filled}
use Rattle.mig_record_optic.proofs.field.Hole.fill.Goals as goal

pub swap-requires : goal.swap-requires
swap-requires c = (at_name (name_there c.self.inside.place c.self.inside.parts) c.self.inside.place c.self.inside.parts c.self.invariant).is_place

pub returns : goal.returns
returns c = filled c.self.inside.place c.self.inside.parts c.swap.new.self (typed_of c.args.value) c.args.self c.self.invariant c.swap.ensures.rest c.self.view_is
