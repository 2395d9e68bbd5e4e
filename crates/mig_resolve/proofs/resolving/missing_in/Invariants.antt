use Rattle.std.proofs.Common.{◌≡◌, map, drop}
use Rattle.mig_syntax.specs.DeclView.{decl_of}
use Rattle.mig_resolve.specs.Text.{missing_in}
use Rattle.mig_resolve.proofs.resolving.missing_in.Given as goal

abbrev pub invariant-loop-decl : goal.invariant-loop-decl
invariant-loop-decl l = missing_in (map decl_of (drop l.decl-index l.decls)) ≡ missing_in (map decl_of l.decls)
