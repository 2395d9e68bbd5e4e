-- What becomes of a record value where a case gets another literal, and where there is one case more.
use Rattle.std.specs.Prelude.{ℕ, List, option_map, if◌then◌else◌}
use Rattle.mig_model.specs.declared.rest.Rest.{Rest}
use Rattle.mig_model.specs.Template.{Field}
use Rattle.mig_value.specs.Parts.{RecordParts}
use Rattle.mig_action.specs.Moves.{settle_case, is_of_case}

-- another literal stands in the tag
abbrev pub with_literal : List ℕ → RecordParts → RecordParts
with_literal l v = record v { tag = option_map (λ t. (t.0, l)) v.tag }

abbrev pub retagged_value : List ℕ → List ℕ → List Field → Rest → RecordParts → RecordParts
retagged_value a b fs r v = if is_of_case a v.tag then with_literal b v else (if is_of_case b v.tag then settle_case fs r v else v)

abbrev pub cased_value : List ℕ → List Field → Rest → RecordParts → RecordParts
cased_value l fs r v = if is_of_case l v.tag then settle_case fs r v else v
