use Rattle.std.proofs.Common.{◌≡◌, sym, subst, ◌∙◌, rules, arith}
use Rattle.std.specs.Prelude.{FitsSigned, IsTrue, is_some}
use Rattle.std.specs.Int.{w64}
use Rattle.std.proofs.lemmas.Int.{to_z-of_z}
use Rattle.mig_model.specs.Kinds.{kind_of}
use Rattle.mig_tree.specs.View.{plain_of}
use Rattle.mig_model.specs.Leaf.{number_of, clamp, clamped, leaf_out, leaf_value}
use Rattle.mig_leaf.specs.View.{leaf_fn_of}
use Rattle.mig_leaf.specs.declared.leaf_fn.LeafFn.{LeafFn}
use Rattle.mig_leaf.proofs.Numbers.{saturated}
use Rattle.mig_leaf.proofs.KindOut.{kind_out, clamp_value}
use Rattle.mig_leaf.proofs.leaf_fn.LeafFn.apply.Goals as goal

pub returns-in-Plus-clause-value : goal.returns-in-Plus-clause-value
returns-in-Plus-clause-value c = grind (arith, to_z-of_z, saturated)

pub returns-in-Plus-clause-kind : goal.returns-in-Plus-clause-kind
returns-in-Plus-clause-kind c = kind_out (leaf_fn_of c.args.self.now) (plain_of c.args.tree) (plain_of c.clamped.result) c.requires (returns-in-Plus-clause-value c)

pub returns-in-Times-clause-value : goal.returns-in-Times-clause-value
returns-in-Times-clause-value c = grind (arith, to_z-of_z, saturated)

pub returns-in-Times-clause-kind : goal.returns-in-Times-clause-kind
returns-in-Times-clause-kind c = kind_out (leaf_fn_of c.args.self.now) (plain_of c.args.tree) (plain_of c.clamped-in-Times.result) c.requires (returns-in-Times-clause-value c)

pub returns-in-Clamp-clause-value : goal.returns-in-Clamp-clause-value
returns-in-Clamp-clause-value c =
    let t = plain_of c.args.tree in
    let low = c.in-Clamp.low in
    let high = c.in-Clamp.high in
    let number = c.number_of-in-Clamp.result in
    let low_fits : FitsSigned w64 low = search rules in
    let high_fits : FitsSigned w64 high = search rules in
    let number_fits : FitsSigned w64 number = search rules in
    let fits : FitsSigned w64 c.clamp.result = search rules in
    let is : c.clamp.result ≡ clamp low high (number_of t) =
    c.clamp.ensures.value ∙ (λ i. clamp (to_z-of_z w64 low low_fits i) (to_z-of_z w64 high high_fits i) ((to_z-of_z w64 number number_fits ∙ c.number_of-in-Clamp.ensures) i)) in
    let bounds = subst (λ (f : LeafFn). IsTrue (is_some (leaf_out (leaf_fn_of f) (kind_of t)))) c.in-Clamp.is c.requires in
    subst (λ (f : LeafFn). plain_of c.clamped-in-Clamp.result ≡ leaf_value (leaf_fn_of f) t) (sym c.in-Clamp.is)
    (c.clamped-in-Clamp.ensures ∙ (λ i. clamped (c.kind-kind.ensures i) ((to_z-of_z w64 c.clamp.result fits ∙ is) i)) ∙ clamp_value (kind_of t) low high (number_of t) bounds)

pub returns-in-Clamp-clause-kind : goal.returns-in-Clamp-clause-kind
returns-in-Clamp-clause-kind c = kind_out (leaf_fn_of c.args.self.now) (plain_of c.args.tree) (plain_of c.clamped-in-Clamp.result) c.requires (returns-in-Clamp-clause-value c)

pub returns-in_ok-read_or-in-OfText-clause-kind : goal.returns-in_ok-read_or-in-OfText-clause-kind
returns-in_ok-read_or-in-OfText-clause-kind c =
    let made = plain_of c.in_ok-read_or-in-OfText.field-0 in
    let value : made ≡ leaf_value (leaf_fn_of c.args.self.now) (plain_of c.args.tree) = search rules in
    kind_out (leaf_fn_of c.args.self.now) (plain_of c.args.tree) made c.requires value
