use Rattle.std.proofs.Common.{◌≡◌, ◌∙◌, None, sym, ap}
use Rattle.std.specs.Prelude.{unwrap_or}
use Rattle.mig_model.specs.Family.{find_type, is_record, body}
use Rattle.mig_model.specs.Template.{any}
use Rattle.mig_schema.proofs.Ways.{way_of_none}
use Rattle.mig_schema.proofs.parts.Parts.version_record.Goals as goal

pub returns-in-None : goal.returns-in-None
returns-in-None c =
    let f = c.args.self.now in
    let none : None ≡ find_type f.root f.types = c.in-None.ensures ∙ ap (λ n. find_type n f.types) c.root.ensures in
    sym (way_of_none f f.version (body f f.root) (ap (λ o. is_record (unwrap_or o any)) (sym none)))
