pub mod Callers
pub mod Cursors
pub mod EachRow
pub mod Elements
pub mod Lengths
pub mod NumberLemmas
pub mod RowLemmas
