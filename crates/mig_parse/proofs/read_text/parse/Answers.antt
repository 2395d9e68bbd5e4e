use Rattle.std.proofs.Common.{List, ℕ, map, ap, subst}
use Rattle.mig_syntax.specs.DeclView.{decl_of}
use Rattle.mig_parse.specs.Text.{AreDeclared}
use Rattle.mig_parse.proofs.TextLaws.{seen, one_list, found_in}
use Rattle.mig_parse.proofs.read_text.parse.Goals as goal

pub returns-clause-only : goal.returns-clause-only
returns-clause-only c = λ es x.
    let pieces = seen c.in_ok-pieces.pieces.declarations.items in
    let ds = map decl_of c.in_ok-declarations.declarations.items in
    let found = subst (λ (ps : List (List ℕ)). AreDeclared ps ds) (ap seen c.deref.ensures.value) c.in_ok-declarations.ensures.found in
    let other = (found_in c.args.bytes.now pieces c.in_ok-pieces.pieces.rest.now es c.in_ok-pieces.ensures x).0 in
    one_list pieces es ds other found
