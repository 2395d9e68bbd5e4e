use Rattle.std.proofs.Common.{◌≡◌, ◌==◌, length, true, false, rules}
use Rattle.std.proofs.lemmas.Result.{err_from_is_err_and}
use Rattle.mig_token.specs.Token.{toks}
use Rattle.mig_reader.specs.declared.error.ParseError.TheVariants.{Wrong}
use Rattle.mig_syntax.specs.DeclView.{decl_of}
use Rattle.mig_parse.proofs.DeclarationLaws.{not_wrong, same_declaration, all_read, none_left, some_left}
use Rattle.mig_parse.proofs.read_declaration.declaration.Goals as goal

pub returns-in_err-declaration-clause-wrong : goal.returns-in_err-declaration-clause-wrong
returns-in_err-declaration-clause-wrong c = λ w d p.
    let q = err_from_is_err_and c.from_residual.result c.from_residual.ensures.1 in
    let is : c.in_err-declaration.field-0.0 ≡ Wrong = cc in
    not_wrong c.in_err-declaration.field-0.0 (toks c.args.tokens.now) d is c.in_err-declaration.ensures p

pub returns-then-not-is_empty-clause-wrong : goal.returns-then-not-is_empty-clause-wrong
returns-then-not-is_empty-clause-wrong c = λ w d p.
    let left : (length c.in_ok-declaration.rest.now == 0) ≡ false = search rules in
    some_left c.in_ok-declaration.rest.now left (same_declaration (toks c.args.tokens.now) (toks c.in_ok-declaration.rest.now) (decl_of c.in_ok-declaration.declaration) d c.in_ok-declaration.ensures p).1

pub returns-clause-found : goal.returns-clause-found
returns-clause-found c =
    let none : (length c.in_ok-declaration.rest.now == 0) ≡ true = search rules in
    all_read (toks c.args.tokens.now) (toks c.in_ok-declaration.rest.now) (decl_of c.in_ok-declaration.declaration) c.in_ok-declaration.ensures (none_left c.in_ok-declaration.rest.now none)

pub returns-clause-only : goal.returns-clause-only
returns-clause-only c = λ d p. (same_declaration (toks c.args.tokens.now) (toks c.in_ok-declaration.rest.now) (decl_of c.in_ok-declaration.declaration) d c.in_ok-declaration.ensures p).0
