pub mod Cases
pub mod Members
pub mod TemplateRead
pub mod TemplateSound
