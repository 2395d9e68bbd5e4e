use Rattle.std.proofs.Common.{◌≡◌, ◌++◌, map, drop}
use Rattle.mig_schema.specs.Types.{named_all}
use Rattle.mig_syntax.specs.DeclView.{decl_of}
use Rattle.mig_resolve.specs.Text.{types_in}
use Rattle.mig_resolve.proofs.families.types_in.Given as goal

abbrev pub invariant-loop-decl : goal.invariant-loop-decl
invariant-loop-decl l = named_all l.list.items ++ types_in (map decl_of (drop l.decl-index l.decls)) ≡ types_in (map decl_of l.decls)
