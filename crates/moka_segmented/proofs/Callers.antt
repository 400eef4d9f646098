-- The lemmas that the crates above use.
pub use Rattle.moka_segmented.proofs.Opened.{all-more}
pub use Rattle.moka_segmented.proofs.Noticing.{notices-by}
pub use Rattle.moka_segmented.proofs.Replies.{taken-replies}
