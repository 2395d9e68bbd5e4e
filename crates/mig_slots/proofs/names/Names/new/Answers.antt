use Rattle.std.proofs.Common.{◌≡◌, ◌∙◌, List, ℕ, sym, subst}
use Rattle.std.specs.Prelude.{IsPermutation}
use Rattle.mig_slots.proofs.names.Names.new.Goals as goal

pub invariant_of-result : goal.invariant_of-result
invariant_of-result c = record {
  same = subst (λ (l : List (List ℕ)). IsPermutation l c.sort_by_key.new.list.items) (c.in_ok-sorted.ensures ∙ c.as_slice.ensures.value) c.sort_by_key.ensures.permutation;
  sorted = c.sort_by_key.ensures.sorted;
}
