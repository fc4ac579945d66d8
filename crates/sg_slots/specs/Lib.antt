pub mod Apart
pub mod Carry
pub mod Decide
pub mod Inside
pub mod Orders
pub mod RowModel
pub mod Slots
