use Rattle.std.proofs.Common.{ap}
use Rattle.mig_value.specs.View.{typed_of}
use Rattle.mig_func.specs.View.{field_fn_of}
use Rattle.mig_func.proofs.Answered.{tree_is, shape_is, fit_is, nodes_are, count_is}
use Rattle.mig_func.proofs.function.FieldFn.apply.Goals as goal

pub returns-in_ok-apply_to-in-Rec : goal.returns-in_ok-apply_to-in-Rec
returns-in_ok-apply_to-in-Rec c =
    let f = field_fn_of c.args.self.now in
    let u = typed_of c.args.value in
    let is = ap typed_of c.in-Rec.is in
    record {
      tree = tree_is f c.args.on.now u c.in-Rec.given c.in_ok-apply_to-in-Rec.field-0 is c.in_ok-apply_to-in-Rec.ensures c.keeps.ensures c.keeps-in-Rec.ensures c.requires.shape c.requires.fits;
      shape = shape_is f c.args.on.now u c.in-Rec.given c.in_ok-apply_to-in-Rec.field-0 is c.in_ok-apply_to-in-Rec.ensures c.keeps.ensures c.keeps-in-Rec.ensures c.requires.shape;
      fit = fit_is f c.args.on.now u c.in-Rec.given c.in_ok-apply_to-in-Rec.field-0 is c.in_ok-apply_to-in-Rec.ensures c.keeps.ensures c.keeps-in-Rec.ensures c.requires.shape;
      nodes = nodes_are f c.args.on.now u c.in-Rec.given c.in_ok-apply_to-in-Rec.field-0 is c.in_ok-apply_to-in-Rec.ensures c.keeps.ensures c.keeps-in-Rec.ensures c.requires.shape;
      count = count_is f c.args.on.now u c.in-Rec.given c.in_ok-apply_to-in-Rec.field-0 is c.in_ok-apply_to-in-Rec.ensures c.keeps.ensures c.keeps-in-Rec.ensures c.requires.shape c.requires.fits;
    }
