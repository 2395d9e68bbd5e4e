use Rattle.mig_value.proofs.Once.{fields_alone}
use Rattle.mig_value.proofs.record.RecValue.of_fields.Goals as goal

pub invariant_of-result : goal.invariant_of-result
invariant_of-result c = fields_alone c.args.fields c.as_slice-fields.ensures.keep
