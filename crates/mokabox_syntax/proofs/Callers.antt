-- What the proofs of the crates above may use.
pub use Rattle.mokabox_syntax.proofs.Truth.{untrue, ne_true-false}
