use Rattle.std.proofs.Common.{◌≡◌, ◌∙◌, ◌++◌, ◌∷◌, ℕ, List, nat_eq, true, false, None, sym, ap, subst}
use Rattle.std.specs.Cmp.Lexicographic.{pointwise}
use Rattle.std.specs.Map.{keys_of, lookup}
use Rattle.mig_model.specs.Names.{has_twice}
use Rattle.mig_template.specs.View.{template_of}
use Rattle.mig_template.specs.declared.template.Template.{Template}
use Rattle.mig_schema.specs.Types.{Named, named_of, named_all}
use Rattle.mig_schema.proofs.Types.{once_if_unique, new_in_middle, one_more}
use Rattle.mig_schema.proofs.named.NamedTypes.copy.Goals as goal

pub loop-name-preserved : goal.loop-name-preserved
loop-name-preserved c =
    let ts = c.loop-name.map.entries in
    let us = named_all c.next.new.self in
    let t : Named = (c.in-Some.name.now, template_of c.in-Some.body.now) in
    let all : named_all ts ++ t ∷ us ≡ c.args.self.now = ap (λ (l : List (List ℕ × Template)). named_all ts ++ named_all l) (sym c.in-Some.ensures.steps) ∙ c.loop-name.invariant in
    let once : has_twice (keys_of (named_all ts ++ t ∷ us)) ≡ false = ap (λ l. has_twice (keys_of l)) (all ∙ sym c.self.view_is) ∙ once_if_unique c.self.inside.map.entries c.into_iter-name-iterator.ensures.into_iter_gives.4 in
    let same : named_of (c.in_ok-name.name, c.in_ok-body.body) ≡ t = (λ i. (c.in_ok-name.ensures i, c.in_ok-body.ensures i)) in
    let new : c.in_ok-_new._new ≡ true = c.in_ok-_new.ensures.new.1 (subst (λ n. lookup (pointwise nat_eq n) ts ≡ None) (sym c.in_ok-name.ensures) (new_in_middle ts t us once)) in
    ap (λ (l : List (List ℕ × Template)). named_all l ++ us) (c.in_ok-_new.ensures.last new) ∙ one_more ts t (c.in_ok-name.name, c.in_ok-body.body) us same ∙ all
