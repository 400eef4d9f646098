-- The lemmas that the crates above use.
pub use Rattle.moka_iter.proofs.Counts.{count-permutation}
pub use Rattle.moka_iter.proofs.KeyCounts.{live-at-home, live-within}
pub use Rattle.moka_iter.proofs.Laws.{each-live, each-once, alone, no-key-twice}
