use Rattle.std.proofs.Common.{◌≡◌, ◌≤◌, length, sym, subst, arith}
use Rattle.std.proofs.lemmas.Grind.{common_steps}
use Rattle.mig_model.specs.declared.limits.TheConstants.{MOST_SAVE_BYTES}
use Rattle.mig_tree.specs.View.{plain_of}
use Rattle.mig_nbt.specs.Format.{NbtSave}
use Rattle.mig_nbt.specs.Writing.{save_text}
use Rattle.mig_nbt.proofs.RoundTrip.{round_trip}
use Rattle.mig_nbt.proofs.writing.write.Goals as goal

pub returns-clause-reads_back : goal.returns-clause-reads_back
returns-clause-reads_back c =
    let name = c.args.name.now in
    let t = plain_of c.args.tree.now in
    let text : c.write_payload.new.out.items ≡ save_text name t = grind (arith, common_steps) in
    λ shallow few. subst (λ b. NbtSave b name t) (sym text)
    (round_trip name t c.requires.name c.requires.map c.requires.spelled c.keeps.ensures shallow (subst (λ b. length b ≤ MOST_SAVE_BYTES) text few))
