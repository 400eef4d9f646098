pub mod Lent
pub mod ReplaceIf
pub mod Waiting
