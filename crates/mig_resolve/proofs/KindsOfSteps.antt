-- Each kind in the fixes of a chain is of its form, where no kind word of the declarations is wrong.
use Rattle.std.proofs.Common.{◌≡◌, ◌∙◌, ◌||◌, ◌&&◌, ℕ, ℤ, List, [], ◌∷◌, ◌++◌, Bool, true, false, Option, Some, None, refl, sym, ap, subst}
use Rattle.std.specs.Prelude.{map, flat_map, not}
use Rattle.std.specs.List.{AllByRecursion}
use Rattle.mig_model.specs.declared.form.Form.{Form}
use Rattle.mig_model.specs.declared.kind.Kind.{Kind}
use Rattle.mig_model.specs.Template.{Field, fields_of, cases_of, is_leaf, is_of_form}
use Rattle.mig_model.specs.Record.{Case, choice_of}
use Rattle.mig_rule.specs.Chain.{Path}
use Rattle.mig_rule.specs.Spelled as chain
use Rattle.mig_syntax.specs.TemplateSyntax as syntax
use Rattle.mig_syntax.specs.TemplateSyntax.{TemplateSyntax, FieldsSyntax, ChoiceSyntax, CasesSyntax}
use Rattle.mig_syntax.specs.RuleSyntax as rule
use Rattle.mig_syntax.specs.RuleSyntax.{ConstSyntax, FillSyntax, LeafSyntax, FunctionSyntax, RuleSyntax, RulesSyntax}
use Rattle.mig_syntax.specs.DeclSyntax as decl
use Rattle.mig_syntax.specs.DeclSyntax.{FixSyntax, DeclSyntax}
use Rattle.mig_resolve_template.specs.Constants.{is_wrong_kind, const_from, leaf_from, const_is_wrong, leaf_is_wrong}
use Rattle.mig_resolve_template.specs.Templates.{in_order, cases_in_order, choice_in_order, template_from, given_fields, given_choice, given_cases, template_is_wrong, fields_are_wrong, choice_is_wrong, cases_are_wrong}
use Rattle.mig_resolve_rule.specs.Functions.{fill_from, op_from, fill_is_wrong, function_is_wrong}
use Rattle.mig_resolve_rule.specs.Rules.{then_rules, rule_from, rules_from, fix_from, any_function, any_function_of, fix_is_wrong}
use Rattle.mig_resolve.specs.Text.{steps_from}
use Rattle.mig_resolve.specs.Right.{AreRight}
use Rattle.mig_resolve.proofs.Clear.{neither, not_false}
use Rattle.mig_resolve.proofs.Everywhere.{all_both, all_in_order}

module _ (form : Form) where
  abbrev OfForm : List Kind → Type 0
  OfForm ks = AllByRecursion (λ k. is_of_form form k ≡ true) ks

  both_true : (a b : Bool) → (a && b) ≡ true → b ≡ true
  both_true true b e = e
  both_true false b e = absurd cc

  kind_is : (k : Kind) → is_wrong_kind form k ≡ false → is_of_form form k ≡ true
  kind_is k e = both_true (is_leaf k) (is_of_form form k) (not_false (is_leaf k && is_of_form form k) e)

  join : (ks js : List Kind) → OfForm ks → OfForm js → OfForm (ks ++ js)
  join ks js h k = all_both (λ k. is_of_form form k ≡ true) ks js h k

  abbrev OfField : Field → Type 0
  OfField f = OfForm (chain.template_kinds f.1.1)

  abbrev OfCase : Case → Type 0
  OfCase c = AllByRecursion OfField c.1

  of_fields : (fs : List Field) → AllByRecursion OfField fs → OfForm (chain.field_kinds (fields_of fs))
  of_fields [] h = tt
  of_fields (f ∷ fs) h = join (chain.template_kinds f.1.1) (chain.field_kinds (fields_of fs)) h.0 (of_fields fs h.1)

  of_cases : (cs : List Case) → AllByRecursion OfCase cs → OfForm (chain.case_kinds (cases_of cs))
  of_cases [] h = tt
  of_cases (c ∷ cs) h = join (chain.field_kinds (fields_of c.1)) (chain.case_kinds (cases_of cs)) (of_fields c.1 h.0) (of_cases cs h.1)

  fields_ordered : (cs : List Case) → AllByRecursion OfCase cs → AllByRecursion OfCase (map (λ (c : Case). (c.0, in_order c.1)) cs)
  fields_ordered [] h = tt
  fields_ordered (c ∷ cs) h = (all_in_order OfField c.1 h.0, fields_ordered cs h.1)

  mutual
    of_template : (t : TemplateSyntax) → template_is_wrong form t ≡ false → OfForm (chain.template_kinds (template_from t))
    of_template (syntax.leaf k) e = (kind_is k e, tt)
    of_template syntax.any e = tt
    of_template (syntax.list t) e = of_template t e
    of_template (syntax.record_of fs c dots) e =
        let both = neither (fields_are_wrong form fs) (choice_is_wrong form c) e in
        join (chain.field_kinds (fields_of (in_order (given_fields fs)))) (chain.choice_kinds (choice_of (choice_in_order (given_choice c))))
        (of_fields (in_order (given_fields fs)) (all_in_order OfField (given_fields fs) (of_given fs both.0)))
        (of_choice c both.1)
    of_template (syntax.point n) e = tt
    of_template (syntax.sum s t) e =
        let both = neither (template_is_wrong form s) (template_is_wrong form t) e in
        join (chain.template_kinds (template_from s)) (chain.template_kinds (template_from t)) (of_template s both.0) (of_template t both.1)

    of_given : (fs : FieldsSyntax) → fields_are_wrong form fs ≡ false → AllByRecursion OfField (given_fields fs)
    of_given syntax.no_field e = tt
    of_given (syntax.field n may t fs) e = let both = neither (template_is_wrong form t) (fields_are_wrong form fs) e in (of_template t both.0, of_given fs both.1)

    of_choice : (c : ChoiceSyntax) → choice_is_wrong form c ≡ false → OfForm (chain.choice_kinds (choice_of (choice_in_order (given_choice c))))
    of_choice syntax.no_choice e = tt
    of_choice (syntax.choice tag cs kept) e =
        of_cases (cases_in_order (given_cases cs)) (all_in_order OfCase (map (λ (c : Case). (c.0, in_order c.1)) (given_cases cs)) (fields_ordered (given_cases cs) (of_given_cases cs e)))

    of_given_cases : (cs : CasesSyntax) → cases_are_wrong form cs ≡ false → AllByRecursion OfCase (given_cases cs)
    of_given_cases syntax.no_case e = tt
    of_given_cases (syntax.case l fs cs) e = let both = neither (fields_are_wrong form fs) (cases_are_wrong form cs) e in (of_given fs both.0, of_given_cases cs both.1)

  of_leaf : (f : LeafSyntax) → leaf_is_wrong form f ≡ false → OfForm (chain.leaf_fn_kinds (leaf_from f))
  of_leaf (rule.constant c) e = (kind_is _ e, tt)
  of_leaf (rule.to_kind k) e = (kind_is k e, tt)
  of_leaf (rule.of_text c) e = (kind_is _ e, tt)
  of_leaf f e = tt

  of_fill : (c : FillSyntax) → fill_is_wrong form c ≡ false → OfForm (chain.fill_kinds (fill_from c))
  of_fill (rule.const c) e = (kind_is _ e, tt)
  of_fill (rule.empty_list t) e = of_template t e

  of_learned : (k : Option Kind) → function_is_wrong form (rule.learn [] k) ≡ false → OfForm (chain.kind_list k)
  of_learned None e = tt
  of_learned (Some k) e = (kind_is k e, tt)

  of_function : (f : FunctionSyntax) → function_is_wrong form f ≡ false → OfForm (chain.op_kinds (op_from f))
  of_function (rule.add x c) e = of_fill c e
  of_function (rule.learn x k) e = of_learned k e
  of_function (rule.default x c) e = of_fill c e
  of_function (rule.map x f) e = of_leaf f e
  of_function (rule.unify x f g) e =
      let both = neither (leaf_is_wrong form f) (leaf_is_wrong form g) e in
      join (chain.leaf_fn_kinds (leaf_from f)) (chain.leaf_fn_kinds (leaf_from g)) (of_leaf f both.0) (of_leaf g both.1)
  of_function (rule.add_case l fs) e = of_fields (given_fields (syntax.fields_of fs)) (of_given (syntax.fields_of fs) e)
  of_function f e = tt

  of_then : (r : RuleSyntax) (rs : RulesSyntax) → OfForm (chain.rule_kinds (rule_from r)) → OfForm (chain.rule_kinds (rules_from rs)) → OfForm (chain.rule_kinds (then_rules (rule_from r) rs (rules_from rs)))
  of_then r rule.no_rule h k = h
  of_then r (rule.rule s rs) h k = join (chain.rule_kinds (rule_from r)) (chain.rule_kinds (rules_from (rule.rule s rs))) h k

  mutual
    of_rule : (r : RuleSyntax) → any_function (function_is_wrong form) r ≡ false → OfForm (chain.rule_kinds (rule_from r))
    of_rule rule.nop e = tt
    of_rule (rule.all r) e = of_rule r e
    of_rule (rule.everywhere r) e = of_rule r e
    of_rule (rule.on n r) e = of_rule r e
    of_rule (rule.at x r) e = of_rule r e
    of_rule (rule.seq rs) e = of_rules rs e
    of_rule (rule.or_else r s) e =
        let both = neither (any_function (function_is_wrong form) r) (any_function (function_is_wrong form) s) e in
        join (chain.rule_kinds (rule_from r)) (chain.rule_kinds (rule_from s)) (of_rule r both.0) (of_rule s both.1)
    of_rule (rule.function l f) e = of_function f e

    of_rules : (rs : RulesSyntax) → any_function_of (function_is_wrong form) rs ≡ false → OfForm (chain.rule_kinds (rules_from rs))
    of_rules rule.no_rule e = tt
    of_rules (rule.rule r rs) e =
        let both = neither (any_function (function_is_wrong form) r) (any_function_of (function_is_wrong form) rs) e in
        of_then r rs (of_rule r both.0) (of_rules rs both.1)

  of_fix : (x : FixSyntax) → fix_is_wrong form x ≡ false → OfForm (chain.fix_kinds (fix_from x))
  of_fix (decl.new_type n t) e = of_template t e
  of_fix (decl.drop_type n) e = tt
  of_fix (decl.deep ss f) e = of_leaf f e
  of_fix (decl.rule r) e = of_rule r e

  pub kinds_of_chain : (path : Path) (ds : List DeclSyntax) → AreRight form ds → OfForm (flat_map chain.chain_step_kinds (steps_from form path ds))
  kinds_of_chain path [] h = tt
  kinds_of_chain path (decl.schema z follows ∷ ds) h = kinds_of_chain path ds h.1
  kinds_of_chain path (decl.fix z x ∷ ds) h = join (chain.fix_kinds (fix_from x)) (flat_map chain.chain_step_kinds (steps_from form path ds)) (of_fix x h.0.1.kinds) (kinds_of_chain path ds h.1)
  kinds_of_chain path (decl.form f ∷ ds) h = kinds_of_chain path ds h.1
  kinds_of_chain path (decl.version xs z ∷ ds) h = kinds_of_chain path ds h.1
  kinds_of_chain path (decl.named n t ∷ ds) h = kinds_of_chain path ds h.1
  kinds_of_chain path (decl.root n ∷ ds) h = kinds_of_chain path ds h.1
