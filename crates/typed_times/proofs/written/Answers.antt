use Rattle.std.proofs.Common.{◌∙◌, ℕ, List, Option, Some, None, sym, ap, subst}
use Rattle.std.specs.Prelude.{IfSome}
use Rattle.mig_model.specs.Plain.{Plain}
use Rattle.mig_nbt.specs.Format.{NbtSave}
use Rattle.mig_nbt.specs.Writing.{save_text}
use Rattle.mig_tree.specs.View.{plain_of}
use Rattle.typed_times.proofs.written.Goals as goal

weaker : {A : Type 0} (o : Option A) (P Q : A → Type 0) → ((x : A) → P x → Q x) → IfSome o P → IfSome o Q
weaker None P Q f p = tt
weaker (Some x) P Q f p = f x p

pub returns : goal.returns
returns g c =
    let t = plain_of c.in_ok-tree.tree in
    let name = c.in_ok-name.name in
    let read = subst (λ (u : Plain). NbtSave c.args.bytes.now name u) (sym c.in_ok-tree.ensures) c.in_ok-name.ensures.save in
    weaker c.text_of-text.result _ _ (λ text is. (name, t, read, is ∙ ap (λ (n : List ℕ). save_text n t) c.bytes.ensures)) c.text_of-text.ensures
