pub mod FirstCache
pub mod LineLaws
pub mod RunLaws
pub mod SessionLaws
pub mod WalkLines
