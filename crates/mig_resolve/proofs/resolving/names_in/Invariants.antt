use Rattle.std.proofs.Common.{◌≡◌, map, drop}
use Rattle.mig_syntax.specs.DeclView.{decl_of}
use Rattle.mig_resolve.specs.Text.{path_in}
use Rattle.mig_resolve.proofs.resolving.names_in.Given as goal

abbrev pub invariant-loop-decl : goal.invariant-loop-decl
invariant-loop-decl l = path_in (map decl_of (drop l.decl-index l.decls)) ≡ path_in (map decl_of l.decls)
