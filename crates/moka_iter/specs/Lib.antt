pub mod Cursors
pub mod Histories
pub mod Iters
pub mod WalkLaws
pub mod Walks
