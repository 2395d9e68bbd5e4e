pub mod FunctionRead
pub mod FunctionSound
