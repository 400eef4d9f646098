pub mod BadLine
pub mod Command
pub mod Fields
pub mod FieldsLeft
pub mod OutputLine
pub mod Settings
pub mod Turn
