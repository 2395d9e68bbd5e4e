use Rattle.std.proofs.Common.{◌≡◌, map, drop}
use Rattle.mig_syntax.specs.DeclView.{decl_of}
use Rattle.mig_resolve.specs.Text.{has_root}
use Rattle.mig_resolve.proofs.before.has_root.Given as goal

abbrev pub invariant-loop-decl : goal.invariant-loop-decl
invariant-loop-decl l = has_root (map decl_of (drop l.decl-index l.later)) ≡ has_root (map decl_of l.later)
