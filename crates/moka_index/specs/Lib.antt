pub mod Nodes
pub mod Deques
pub mod Paths
pub mod Rings
pub mod IdentityHasher
pub mod Chains
pub mod BucketHeads
pub mod RowIndex
