pub mod FixLaws
pub mod DeclarationLaws
pub mod TextLaws
pub mod TokenTexts
pub mod TemplateTexts
pub mod RuleTexts
pub mod DeclarationTexts
