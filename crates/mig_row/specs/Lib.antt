pub mod Row
pub mod RowView
