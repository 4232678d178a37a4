pub mod Sorts
pub mod Rules
pub mod Typing
pub mod Laws
pub mod Rows
pub mod Statements
pub mod Declarations
