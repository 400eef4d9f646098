pub mod Blobs
pub mod Calls
pub mod Counts
pub mod Tenants
pub mod Tokens
pub mod Triangle
