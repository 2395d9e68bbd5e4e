pub mod RuleLoop
pub mod RuleRead
pub mod RuleSound
