pub mod Decimal
pub mod Numbers
pub mod KindOut
pub mod Tables
