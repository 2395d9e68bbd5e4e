use Rattle.std.proofs.Common.{arith}
use Rattle.mig_syntax.specs.DeclView.{decl_of}
use Rattle.mig_resolve.specs.Right.{IsRight}
use Rattle.mig_resolve.proofs.Lists.{at_index}
use Rattle.mig_resolve.proofs.resolving.missing_in.Goals as goal

pub missing_of-requires : goal.missing_of-requires
missing_of-requires c = (c.requires.0, at_index (IsRight c.requires.0) decl_of c.args.decls.now c.loop-decl.decl-index c.decl-item.result c.loop-decl-test.true c.decl-item.is c.requires.1)
