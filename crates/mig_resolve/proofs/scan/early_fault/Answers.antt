use Rattle.std.proofs.Common.{◌≡◌, ◌∙◌, ◌+◌, ℕ, suc, List, map, drop, ap, subst, arith}
use Rattle.mig_syntax.specs.DeclSyntax.{DeclSyntax}
use Rattle.mig_syntax.specs.DeclView.{decl_of}
use Rattle.mig_resolve.specs.Scan.{IsScanned}
use Rattle.mig_resolve.proofs.Lists.{ahead}
use Rattle.mig_resolve.proofs.Scans.{one_further}
use Rattle.mig_resolve.proofs.scan.early_fault.Goals as goal

pub loop-place-preserved : goal.loop-place-preserved
loop-place-preserved c =
    let form = c.form_in-form.result in
    let xs = c.args.decls.now in
    let i = c.loop-place.place in
    let d = decl_of c.index-decls-place.result in
    let later = map decl_of c.later_than-later.result.now in
    let next = ahead decl_of xs c.later_than-later.result.now i c.index-decls-place.result (omega arith) c.index-decls-place.is c.later_than-later.ensures in
    let is = subst (λ (l : List DeclSyntax). IsScanned form (map decl_of xs) i l c.loop-place.scan) next c.loop-place.invariant in
    let more : suc i ≡ i + 1 = omega arith in
    let further = one_further form (map decl_of xs) i d later c.loop-place.scan c.in-Ok.next is (c.in-Ok.ensures is.seen is.before_is (omega (arith, is.count))) in
    subst (λ (k : ℕ). IsScanned form (map decl_of xs) k (map decl_of (drop (i + 1) xs)) c.in-Ok.next) more
    (subst (λ (l : List DeclSyntax). IsScanned form (map decl_of xs) (suc i) l c.in-Ok.next) (ap (map decl_of) c.later_than-later.ensures) further)
