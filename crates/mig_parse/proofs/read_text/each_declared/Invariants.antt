use Rattle.std.proofs.Common.{map, take}
use Rattle.mig_syntax.specs.DeclView.{decl_of}
use Rattle.mig_parse.specs.Text.{AreDeclared}
use Rattle.mig_parse.proofs.read_text.each_declared.Given as goal

abbrev pub invariant-loop-i : goal.invariant-loop-i
invariant-loop-i l = AreDeclared (map (λ piece. piece.now) (take l.i l.pieces)) (map decl_of l.declarations.items)
