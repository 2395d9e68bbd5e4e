-- The laws of rules, from the step that each rule makes.
use Rattle.mig_model.specs.Inhabits.{Inhabits}
use Rattle.mig_field_laws.specs.Laws.{Anything, Passes}
use Rattle.mig_rule_laws.specs.Laws.{SoundnessStays, RuleTypesStay, RuleTestsStay, TidinessStays, KindsStay}
use Rattle.mig_rule_laws.proofs.Rules.{rule_step, rule_types_stay_at}

pub soundness_stays : SoundnessStays
soundness_stays form r n V W o e = (rule_step form Anything r o n V W e).sound

pub rule_types_stay : RuleTypesStay
rule_types_stay form r n V W o e s body t b x = rule_types_stay_at form (Inhabits form body) r o n V W e s t b x

pub rule_tests_stay : RuleTestsStay
rule_tests_stay form r n V W o e s test t b x = rule_types_stay_at form (Passes test) r o n V W e s t b x

pub tidiness_stays : TidinessStays
tidiness_stays form r n V W o e s t b x = ((rule_step form Anything r o n V W e).leads s t b x).0

pub kinds_stay : KindsStay
kinds_stay form r n V W o e = (rule_step form Anything r o n V W e).kind
