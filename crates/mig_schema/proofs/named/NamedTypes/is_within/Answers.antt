use Rattle.std.proofs.Common.{rules, ◌≡◌, ◌∙◌, ℕ, List, Some, refl, sym, ap, subst, option_map}
use Rattle.std.specs.Prelude.{IsTrue}
use Rattle.std.specs.Cmp.Lexicographic.{nat_list_eq_equiv}
use Rattle.std.specs.Map.Iter.{deref_pair}
use Rattle.std.proofs.lemmas.Map.Iter.{hash_map_turn}
use Rattle.mig_model.specs.Family.{find_type}
use Rattle.mig_template.specs.declared.template.Template.{Template}
use Rattle.mig_template.specs.View.{template_of}
use Rattle.mig_schema.specs.Types.{named_all, IsWithin}
use Rattle.mig_schema.proofs.Types.{found_is}
use Rattle.mig_schema.proofs.Within.{none_within, one_more_within}
use Rattle.mig_schema.proofs.named.NamedTypes.is_within.Goals as goal

pub loop-name-init : goal.loop-name-init
loop-name-init c =
    let all : c.into_iter-name-iterator.result ≡ c.self.inside.map.entries = c.into_iter-name-iterator.ensures.into_iter_gives.0 in
    subst (λ ts. IsWithin ts c.args.other.now) (ap named_all all ∙ c.self.view_is)

pub returns-then-not-has : goal.returns-then-not-has
returns-then-not-has c =
    let us = c.args.other.now in
    let n = c.in-Some.name.now in
    let turn = hash_map_turn deref_pair c.loop-name.yielded c.into_iter-name-iterator.result c.loop-name.name-iterator c.next.new.self c.next.result (c.in-Some.name, c.in-Some.body) c.loop-name.yielded_by c.in-Some.is c.next.ensures.steps
    nat_list_eq_equiv c.self.inside.map c.into_iter-name-iterator.ensures.into_iter_gives.0 c.into_iter-name-iterator.ensures.into_iter_gives.4 in
    let there : find_type n c.args.self.now ≡ Some (template_of c.in-Some.body.now) = ap (find_type n) (sym c.self.view_is) ∙ sym (found_is n c.self.inside.map.entries) ∙ ap (option_map template_of) turn.1 in (
      λ never. absurd cc,
      λ w. let told : IsTrue c.has.result = c.has.ensures.1 (w n (template_of c.in-Some.body.now) there) in absurd cc,
    )

pub loop-name-preserved : goal.loop-name-preserved
loop-name-preserved c =
    let us = c.args.other.now in
    let told : IsTrue c.has.result = search rules in
    λ w.
    c.loop-name.invariant
    (subst (λ (ts : List (List ℕ × Template)). IsWithin (named_all ts) us) (sym c.in-Some.ensures.steps) (one_more_within (c.in-Some.name.now, template_of c.in-Some.body.now) (named_all c.next.new.self) us (c.has.ensures.0 told) w))

pub returns : goal.returns
returns c =
    let us = c.args.other.now in
    (λ _. c.loop-name.invariant (subst (λ (ts : List (List ℕ × Template)). IsWithin (named_all ts) us) (sym c.in-None.ensures.steps.0) (none_within us)), λ _. refl)
