pub mod Spelling
pub mod Token
pub mod Lexical
pub mod Cuts
