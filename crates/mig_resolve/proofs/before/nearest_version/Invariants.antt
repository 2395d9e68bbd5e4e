use Rattle.std.proofs.Common.{◌≡◌, map, drop}
use Rattle.mig_syntax.specs.DeclView.{decl_of}
use Rattle.mig_resolve.specs.Text.{nearest_version}
use Rattle.mig_resolve.proofs.before.nearest_version.Given as goal

abbrev pub invariant-loop-decl : goal.invariant-loop-decl
invariant-loop-decl l = nearest_version (map decl_of (drop l.decl-index l.later)) ≡ nearest_version (map decl_of l.later)
