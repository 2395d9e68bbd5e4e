use Rattle.std.proofs.Common.{◌≡◌, map, subst}
use Rattle.mig_resolve.specs.declared.fault.ChainFault.{ChainFault}
use Rattle.mig_resolve.specs.Steps.{IsChainFault}
use Rattle.mig_resolve.specs.Faults.{IsFaultAt}
use Rattle.mig_syntax.specs.DeclView.{decl_of}
use Rattle.mig_run.specs.Chains.{fault}
use Rattle.mig_run.proofs.Readings.{all_declared, grammar_fault}
use Rattle.mig_run.proofs.chain.reading_of.Goals as goal

pub returns-in-Err-clause-read : goal.returns-in-Err-clause-read
returns-in-Err-clause-read c = grammar_fault c.in-Err.fault c.args.text.now c.in_ok-ungrammatical-in-Err.field-0.items c.in-Err.ensures.fault c.in_ok-ungrammatical-in-Err.ensures.line

pub resolve-requires : goal.resolve-requires
resolve-requires c = all_declared c.args.text.now (map decl_of c.in-Ok.declarations.items) c.in-Ok.ensures.found

pub returns-in_ok-fault_line-in-Err-Fault-clause-read : goal.returns-in_ok-fault_line-in-Err-Fault-clause-read
returns-in_ok-fault_line-in-Err-Fault-clause-read c =
    (fault c.in-Err-Fault.number c.in-Err-Fault.declaration, ((map decl_of c.in-Ok.declarations.items, (c.in-Ok.ensures.found, subst (λ (e : ChainFault). IsChainFault e (IsFaultAt (map decl_of c.in-Ok.declarations.items))) c.in-Err-Fault.field-0-is c.in-Err-Fault.ensures.fault)), c.in_ok-fault_line-in-Err-Fault.ensures))
