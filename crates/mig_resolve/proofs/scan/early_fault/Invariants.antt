use Rattle.std.proofs.Common.{map, drop}
use Rattle.mig_syntax.specs.DeclView.{decl_of}
use Rattle.mig_resolve.specs.Scan.{IsScanned}
use Rattle.mig_resolve.proofs.scan.early_fault.Given as goal

abbrev pub invariant-loop-place : goal.invariant-loop-place
invariant-loop-place l = IsScanned l.form (map decl_of l.decls) l.place (map decl_of (drop l.place l.decls)) l.scan
