-- A family of its parts is that of the declarations.
use Rattle.std.proofs.Common.{◌≡◌, ◌∙◌, List, ℕ, None, Option, Result, Ok, Err, refl, sym, ap, subst}
use Rattle.std.specs.Prelude.{IfOk, is_some, true, false, Bool}
use Rattle.mig_model.specs.declared.form.Form.{Form}
use Rattle.mig_model.specs.Family.{Family, Flaw, IsFormed, first_flaw}
use Rattle.mig_schema.specs.declared.fault.SchemaFault.{SchemaFault}
use Rattle.mig_schema.specs.declared.fault.SchemaFault.TheVariants as S
use Rattle.mig_schema.specs.Fault.{IsFamilyFault}
use Rattle.mig_schema.specs.Types.{Named, family_of}
use Rattle.mig_syntax.specs.DeclSyntax.{DeclSyntax}
use Rattle.mig_rule.specs.Chain.{Path}
use Rattle.mig_resolve.specs.Text.{types_in, root_in, family_in}

pub same_family : (form : Form) (path path' : Path) (types : List Named) (root : List ℕ) (ds : List DeclSyntax) → path ≡ path' → types ≡ types_in ds → root ≡ root_in ds → family_of form path types root ≡ family_in form path' ds
same_family form path path' types root ds p t r = λ i. record { form = form; version = p i; types = t i; root = r i }

pub formed_as : (r : Result Family SchemaFault) (f g : Family) → f ≡ g → IfOk r (λ h. h ≡ f) → IfOk r (λ h. IsFormed h) → IfOk r (λ h. first_flaw g ≡ None)
formed_as (Ok h) f g same is formed = ap first_flaw (sym same) ∙ ap first_flaw (sym is) ∙ formed
formed_as (Err e) f g same is formed = tt

-- a fault that isn't want of memory is a flaw
pub flaw_there : (e : SchemaFault) (first : Option Flaw) → (e ≡ S.Memory → ⊥) → IsFamilyFault e first → is_some first ≡ true
flaw_there S.Memory first n h = absurd (n refl)
flaw_there S.TwiceNamed first n h = ap is_some h
flaw_there S.TooMany first n h = ap is_some h
flaw_there S.TooDeep first n h = ap is_some h
flaw_there S.WrongKind first n h = ap is_some h
flaw_there S.UnknownName first n h = ap is_some h
flaw_there S.Unguarded first n h = ap is_some h
flaw_there S.SumOverlap first n h = ap is_some h
flaw_there S.MixedList first n h = ap is_some h
flaw_there S.RootNotRecord first n h = ap is_some h
flaw_there S.VersionPath first n h = ap is_some h
flaw_there S.VersionNameUsed first n h = ap is_some h
