-- Each name and text of the steps of a chain is one of its declarations.
use Rattle.std.proofs.Common.{◌≡◌, ◌∙◌, ℕ, ℤ, suc, List, [], ◌∷◌, ◌++◌, Bool, true, false, Option, Some, None, refl, sym, ap, subst}
use Rattle.std.specs.Prelude.{map, flat_map, nat_abs, if◌then◌else◌}
use Rattle.std.specs.List.{AllByRecursion}
use Rattle.mig_model.specs.declared.form.Form.{Form}
use Rattle.mig_model.specs.declared.kind.Kind.{Kind}
use Rattle.mig_model.specs.declared.kind.Kind.TheVariants as K
use Rattle.mig_schema.specs.Types.{Named}
use Rattle.mig_rule.specs.Chain.{Path}
use Rattle.mig_rule.specs.Spelled as chain
use Rattle.mig_syntax.specs.TemplateSyntax.{fields_of}
use Rattle.mig_syntax.specs.RuleSyntax as rule
use Rattle.mig_syntax.specs.RuleSyntax.{ConstSyntax, FillSyntax, LeafSyntax, FunctionSyntax, RuleSyntax, RulesSyntax}
use Rattle.mig_syntax.specs.DeclSyntax as decl
use Rattle.mig_syntax.specs.DeclSyntax.{StepSyntax, FixSyntax, DeclSyntax}
use Rattle.mig_parse.specs.Texts as text
use Rattle.mig_resolve_template.specs.Constants.{number_from, bits_from, empty_from, const_from, leaf_from}
use Rattle.mig_resolve_template.specs.Templates.{template_from}
use Rattle.mig_resolve_rule.specs.Functions.{scope_from, fill_from, op_from}
use Rattle.mig_resolve_rule.specs.Rules.{then_rules, rule_from, rules_from, step_from, fix_from}
use Rattle.mig_resolve.specs.Text.{ends_schema, type_in, types_in, root_in, path_in, given_family, steps_from}
use Rattle.mig_resolve.proofs.Everywhere.{all_both, all_front, all_back, of_template, of_given_fields}

module _ (P : List ℕ → Type 0) where
  abbrev Each : List (List ℕ) → Type 0
  Each names = AllByRecursion P names

  no_text : (k : Kind) (z : ℤ) → Each (chain.const_texts (number_from k z))
  no_text K.Byte z = tt
  no_text K.Short z = tt
  no_text K.Int z = tt
  no_text K.Long z = tt
  no_text k z = tt

  no_text_in_bits : (k : Kind) (z : ℤ) → Each (chain.const_texts (bits_from k z))
  no_text_in_bits K.Float z = tt
  no_text_in_bits k z = tt

  no_text_in_empty : (k : Kind) → Each (chain.const_texts (empty_from k))
  no_text_in_empty K.Bytes = tt
  no_text_in_empty K.Ints = tt
  no_text_in_empty k = tt

  of_const : (c : ConstSyntax) → Each (text.const_texts c) → Each (chain.const_texts (const_from c))
  of_const (rule.number k z) h = no_text k z
  of_const (rule.bits k z) h = no_text_in_bits k z
  of_const (rule.text s) h = h
  of_const (rule.boolean b) h = tt
  of_const rule.null h = tt
  of_const (rule.empty k) h = no_text_in_empty k

  of_leaf : (f : LeafSyntax) → Each (text.leaf_texts f) → Each (chain.leaf_fn_texts (leaf_from f))
  of_leaf (rule.constant c) h = of_const c h
  of_leaf (rule.of_text c) h = of_const c h
  of_leaf (rule.table ps) h = h
  of_leaf (rule.prefix s) h = h
  of_leaf (rule.strip s) h = h
  of_leaf f h = tt

  of_fill : (c : FillSyntax) → Each (text.fill_texts c) → Each (chain.fill_names (fill_from c))
  of_fill (rule.const c) h = of_const c h
  of_fill (rule.empty_list t) h = of_template P t h

  of_function : (f : FunctionSyntax) → Each (text.function_texts f) → Each (chain.op_texts (op_from f))
  of_function (rule.rename x y) h = h
  of_function (rule.drop x) h = h
  of_function (rule.add x c) h = (h.0, of_fill c h.1)
  of_function (rule.learn x k) h = h
  of_function (rule.forget x) h = h
  of_function (rule.default x c) h = (h.0, of_fill c h.1)
  of_function (rule.maybe x) h = h
  of_function (rule.map x f) h = (h.0, of_leaf f h.1)
  of_function (rule.nest xs y) h = h
  of_function (rule.unnest x) h = h
  of_function (rule.wrap x) h = h
  of_function (rule.unify x f g) h = (h.0, all_both P (chain.leaf_fn_texts (leaf_from f)) (chain.leaf_fn_texts (leaf_from g)) (of_leaf f (all_front P (text.leaf_texts f) (text.leaf_texts g) h.1)) (of_leaf g (all_back P (text.leaf_texts f) (text.leaf_texts g) h.1)))
  of_function (rule.retag a b) h = h
  of_function (rule.add_case l fs) h = (h.0, of_given_fields P (fields_of fs) h.1)

  of_scope : (l : Option (List ℕ)) → Each (text.scope_texts l) → Each (chain.scope_texts (scope_from l))
  of_scope None h = tt
  of_scope (Some l) h = h

  of_then : (r : RuleSyntax) (rs : RulesSyntax) → Each (chain.rule_texts (rule_from r)) → Each (chain.rule_texts (rules_from rs)) → Each (chain.rule_texts (then_rules (rule_from r) rs (rules_from rs)))
  of_then r rule.no_rule h k = h
  of_then r (rule.rule s rs) h k = all_both P (chain.rule_texts (rule_from r)) (chain.rule_texts (rules_from (rule.rule s rs))) h k

  mutual
    of_rule : (r : RuleSyntax) → Each (text.rule_texts r) → Each (chain.rule_texts (rule_from r))
    of_rule rule.nop h = tt
    of_rule (rule.all r) h = of_rule r h
    of_rule (rule.everywhere r) h = of_rule r h
    of_rule (rule.on n r) h = (h.0, of_rule r h.1)
    of_rule (rule.at x r) h = (h.0, of_rule r h.1)
    of_rule (rule.seq rs) h = of_rules rs h
    of_rule (rule.or_else r s) h = all_both P (chain.rule_texts (rule_from r)) (chain.rule_texts (rule_from s)) (of_rule r (all_front P (text.rule_texts r) (text.rule_texts s) h)) (of_rule s (all_back P (text.rule_texts r) (text.rule_texts s) h))
    of_rule (rule.function l f) h = all_both P (chain.scope_texts (scope_from l)) (chain.op_texts (op_from f)) (of_scope l (all_front P (text.scope_texts l) (text.function_texts f) h)) (of_function f (all_back P (text.scope_texts l) (text.function_texts f) h))

    of_rules : (rs : RulesSyntax) → Each (text.rules_texts rs) → Each (chain.rule_texts (rules_from rs))
    of_rules rule.no_rule h = tt
    of_rules (rule.rule r rs) h = of_then r rs (of_rule r (all_front P (text.rule_texts r) (text.rules_texts rs) h)) (of_rules rs (all_back P (text.rule_texts r) (text.rules_texts rs) h))

  of_step : (s : StepSyntax) → Each (text.step_texts s) → Each (chain.step_texts (step_from s))
  of_step (decl.field x) h = h
  of_step decl.each h = tt
  of_step decl.left h = tt
  of_step decl.right h = tt
  of_step (decl.case l) h = h

  of_steps : (ss : List StepSyntax) → Each (flat_map text.step_texts ss) → Each (flat_map chain.step_texts (map step_from ss))
  of_steps [] h = tt
  of_steps (s ∷ ss) h = all_both P (chain.step_texts (step_from s)) (flat_map chain.step_texts (map step_from ss)) (of_step s (all_front P (text.step_texts s) (flat_map text.step_texts ss) h)) (of_steps ss (all_back P (text.step_texts s) (flat_map text.step_texts ss) h))

  of_fix : (x : FixSyntax) → Each (text.fix_texts x) → Each (chain.fix_texts (fix_from x))
  of_fix (decl.new_type n t) h = (h.0, of_template P t h.1)
  of_fix (decl.drop_type n) h = h
  of_fix (decl.deep ss f) h =
      all_both P (flat_map chain.step_texts (map step_from ss)) (chain.leaf_fn_texts (leaf_from f)) (of_steps ss (all_front P (flat_map text.step_texts ss) (text.leaf_texts f) h)) (of_leaf f (all_back P (flat_map text.step_texts ss) (text.leaf_texts f) h))
  of_fix (decl.rule r) h = of_rule r h

  -- ---- declarations
  abbrev OfDecls : List DeclSyntax → Type 0
  OfDecls ds = AllByRecursion (λ d. Each (text.decl_texts d)) ds

  abbrev named_texts : Named → List (List ℕ)
  named_texts t = t.0 ∷ chain.template_names t.1

  of_type : (d : DeclSyntax) → Each (text.decl_texts d) → Each (flat_map named_texts (type_in d))
  of_type (decl.named n t) h = all_both P (named_texts (n, template_from t)) [] (h.0, of_template P t h.1) tt
  of_type (decl.form f) h = tt
  of_type (decl.version xs z) h = tt
  of_type (decl.schema z b) h = tt
  of_type (decl.root n) h = tt
  of_type (decl.fix z x) h = tt

  flat_both : (xs ys : List Named) → Each (flat_map named_texts xs) → Each (flat_map named_texts ys) → Each (flat_map named_texts (xs ++ ys))
  flat_both [] ys h k = k
  flat_both (x ∷ xs) ys h k = all_both P (named_texts x) (flat_map named_texts (xs ++ ys)) (all_front P (named_texts x) (flat_map named_texts xs) h) (flat_both xs ys (all_back P (named_texts x) (flat_map named_texts xs) h) k)

  unless_ended : (b : Bool) (ts us : List Named) → Each (flat_map named_texts ts) → Each (flat_map named_texts us) → Each (flat_map named_texts (if b then [] else ts ++ us))
  unless_ended true ts us h k = tt
  unless_ended false ts us h k = flat_both ts us h k

  of_types : (ds : List DeclSyntax) → OfDecls ds → Each (flat_map named_texts (types_in ds))
  of_types [] h = tt
  of_types (d ∷ ds) h = unless_ended (ends_schema d) (type_in d) (types_in ds) (of_type d h.0) (of_types ds h.1)

  module _ (empty : P []) where
    of_root : (ds : List DeclSyntax) → OfDecls ds → P (root_in ds)
    of_root [] h = empty
    of_root (decl.schema z b ∷ ds) h = empty
    of_root (decl.fix z x ∷ ds) h = empty
    of_root (decl.root n ∷ ds) h = h.0.0
    of_root (decl.form f ∷ ds) h = of_root ds h.1
    of_root (decl.version xs z ∷ ds) h = of_root ds h.1
    of_root (decl.named n t ∷ ds) h = of_root ds h.1

    of_given : (form : Form) (path : Path) → Each path → (follows : Bool) (ds : List DeclSyntax) → OfDecls ds → Each (chain.family_texts (given_family form path follows ds))
    of_given form path p true ds h = tt
    of_given form path p false ds h = all_both P path (root_in ds ∷ flat_map named_texts (types_in ds)) p (of_root ds h, of_types ds h)

    pub of_chain : (form : Form) (path : Path) → Each path → (ds : List DeclSyntax) → OfDecls ds → Each (flat_map chain.chain_step_texts (steps_from form path ds))
    of_chain form path p [] h = tt
    of_chain form path p (decl.schema z follows ∷ ds) h =
        all_both P (chain.family_texts (given_family form path follows ds)) (flat_map chain.chain_step_texts (steps_from form path ds)) (of_given form path p follows ds h.1) (of_chain form path p ds h.1)
    of_chain form path p (decl.fix z x ∷ ds) h = all_both P (chain.fix_texts (fix_from x)) (flat_map chain.chain_step_texts (steps_from form path ds)) (of_fix x h.0) (of_chain form path p ds h.1)
    of_chain form path p (decl.form f ∷ ds) h = of_chain form path p ds h.1
    of_chain form path p (decl.version xs z ∷ ds) h = of_chain form path p ds h.1
    of_chain form path p (decl.named n t ∷ ds) h = of_chain form path p ds h.1
    of_chain form path p (decl.root n ∷ ds) h = of_chain form path p ds h.1

  pub of_path : (ds : List DeclSyntax) → OfDecls ds → Each (path_in ds)
  of_path [] h = tt
  of_path (decl.version xs z ∷ ds) h = h.0
  of_path (decl.form f ∷ ds) h = of_path ds h.1
  of_path (decl.schema z b ∷ ds) h = of_path ds h.1
  of_path (decl.named n t ∷ ds) h = of_path ds h.1
  of_path (decl.root n ∷ ds) h = of_path ds h.1
  of_path (decl.fix z x ∷ ds) h = of_path ds h.1
