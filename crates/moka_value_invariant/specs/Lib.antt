pub mod Fits
pub mod KeepLaws
pub mod Keeps
pub mod KeptLaws
