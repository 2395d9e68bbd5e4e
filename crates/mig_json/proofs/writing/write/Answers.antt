use Rattle.std.proofs.Common.{IsUtf8, subst, ◌≡◌, ◌++◌, [], ◌∙◌, ap, ap₂, sym, rules}
use Rattle.json.specs.Lex.{tokens}
use Rattle.json.specs.Print.{print}
use Rattle.json.specs.Tree.{json_tokens}
use Rattle.serde_json.specs.Written.{outline}
use Rattle.serde_json.proofs.Texts.{print-outline}
use Rattle.mig_tree.specs.View.{plain_of}
use Rattle.mig_json.specs.Writing.{data_of}
use Rattle.mig_json.proofs.Again.{save_again}
use Rattle.mig_json.proofs.ReadAgain.{read_again}
use Rattle.mig_json.proofs.writing.write.Goals as goal

pub returns-clause-text : goal.returns-clause-text
returns-clause-text c =
    let d = data_of (plain_of c.args.tree.now) in
    let w = c.write_tree.new.out in
    let nothing : w.before ≡ [] = search rules in
    let all : w.tokens ≡ json_tokens (outline d) = search rules in
    c.into_inner.ensures.items ∙ ap₂ (λ a ts. a ++ print ts) nothing all ∙ print-outline d

pub returns-clause-reads_back : goal.returns-clause-reads_back
returns-clause-reads_back c = λ shallow short.
    let t = plain_of c.args.tree.now in
    let d = data_of t in
    let w = c.write_tree.new.out in
    let nothing : w.before ≡ [] = search rules in
    let all : w.tokens ≡ json_tokens (outline d) = search rules in
    let text : c.into_inner.result.items ≡ print w.tokens = c.into_inner.ensures.items ∙ ap (λ a. a ++ print w.tokens) nothing in
    let utf8 : IsUtf8 c.into_inner.result.items = subst (λ b. IsUtf8 b) (sym text) c.into_inner.ensures.utf8 in
    let reads = read_again t c.into_inner.result.items (ap tokens text ∙ c.into_inner.ensures.reads_back ∙ all) c.keeps.ensures shallow in
    save_again t c.into_inner.result.items c.requires.map c.requires.json c.keeps.ensures utf8 reads short
