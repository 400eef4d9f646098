-- The lemmas that the crates above use.
pub use Rattle.moka_sketch.proofs.Places.{place-lt}
