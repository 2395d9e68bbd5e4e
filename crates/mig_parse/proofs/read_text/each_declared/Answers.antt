use Rattle.std.proofs.Common.{◌≡◌, ◌++◌, ◌∷◌, [], map, ap, ◌∙◌}
use Rattle.std.proofs.lemmas.List.{map-append}
use Rattle.mig_syntax.specs.DeclView.{decl_of}
use Rattle.mig_parse.proofs.TextLaws.{no_piece, one_more, first_undeclared}
use Rattle.mig_parse.proofs.read_text.each_declared.Goals as goal

pub returns-in-None-clause-fault : goal.returns-in-None-clause-fault
returns-in-None-clause-fault c = first_undeclared c.args.pieces.now (map decl_of c.loop-i.declarations.items) c.loop-i.i no_piece c.loop-i-test.true c.loop-i.invariant c.in_ok-found.field-0 c.in-None.is c.in_ok-found.ensures

pub loop-i-preserved : goal.loop-i-preserved
loop-i-preserved c =
    let before = c.loop-i.declarations.items in
    let pushed : map decl_of c.push.new.self.items ≡ map decl_of before ++ decl_of c.in-Some.found ∷ [] = ap (map decl_of) c.in_ok-push-in-Some.ensures.items ∙ map-append decl_of before (c.in-Some.found ∷ []) in
    rw pushed (one_more c.args.pieces.now (map decl_of before) c.loop-i.i no_piece c.loop-i-test.true c.loop-i.invariant c.in_ok-found.field-0 c.in-Some.found c.in-Some.is c.in_ok-found.ensures)
