-- The lemmas that the crates above use.
pub use Rattle.moka_policy.proofs.NumberHashes.{number_hash-remainder, number_hash-le_bytes}
