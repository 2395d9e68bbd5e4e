use Rattle.std.proofs.Common.{◌≡◌, subst, map, List, ℕ}
use Rattle.std.specs.Prelude.{IfErr}
use Rattle.mig_model.specs.declared.form.Form.{Form}
use Rattle.mig_model.specs.Family.{Family, first_flaw}
use Rattle.mig_schema.specs.Types.{Named, named_all, family_of}
use Rattle.mig_schema.specs.Fault.{IsFamilyFault}
use Rattle.mig_syntax.specs.DeclView.{decl_of}
use Rattle.mig_resolve.specs.Text.{family_in}
use Rattle.mig_resolve.proofs.Formed.{same_family, formed_as}
use Rattle.mig_resolve.proofs.families.family_in.Goals as goal

pub returns-clause-formed : goal.returns-clause-formed
returns-clause-formed c =
    let same = same_family c.args.form c.in_ok-path.path c.args.path.now (named_all c.in_ok-types.types.items) c.in_ok-root.root (map decl_of c.args.decls.now) c.in_ok-path.ensures c.in_ok-types.ensures c.in_ok-root.ensures in
    formed_as c.new.result _ (family_in c.args.form c.args.path.now (map decl_of c.args.decls.now)) same c.new.ensures.made c.new.ensures.formed

pub returns-clause-fault : goal.returns-clause-fault
returns-clause-fault c =
    let same = same_family c.args.form c.in_ok-path.path c.args.path.now (named_all c.in_ok-types.types.items) c.in_ok-root.root (map decl_of c.args.decls.now) c.in_ok-path.ensures c.in_ok-types.ensures c.in_ok-root.ensures in
    subst (λ (f : Family). IfErr c.new.result (λ e. IsFamilyFault e (first_flaw f))) same c.new.ensures.fault
