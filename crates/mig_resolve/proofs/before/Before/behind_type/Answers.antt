use Rattle.std.proofs.Common.{◌≡◌, ◌∙◌, ◌+◌, ◌||◌, ap, arith}
use Rattle.mig_model.specs.Names.{same_name, is_among}
use Rattle.mig_resolve.proofs.Names.{one_name_more}
use Rattle.mig_resolve.proofs.before.Before.behind_type.Goals as goal

pub returns : goal.returns
returns c before template is = record {
  count = c.in_ok-next.ensures ∙ ap (λ n. n + 1) is.count ∙ omega arith;
  schemas = is.schemas;
  fixes = is.fixes;
  under_own = is.under_own;
  root = is.root;
  version = is.version;
  types = λ m. ap (λ ks. is_among ks m) c.in_ok-add.ensures ∙ one_name_more c.args.self.types c.args.name m ∙ ap (λ b. same_name m c.args.name || b) (is.types m);
}
