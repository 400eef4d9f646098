-- What the crates above may use of the proofs here: when a maintenance within a limit is a whole one.
pub use Rattle.moka_housekeeper.proofs.Whole.{without-limit, no-part-left}
