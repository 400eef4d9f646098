pub mod Callers
pub mod Counts
pub mod Lists
pub mod Rounding
pub mod SegmentLaws
pub mod Standing
pub mod Writes
