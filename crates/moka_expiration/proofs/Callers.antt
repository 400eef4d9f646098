-- What the crates above may use of the proofs here: when a deadline that is kept has come, and what that says of its row.
pub use Rattle.moka_expiration.proofs.Deadlines.{comes-within, come-kept, alive-kept, cause-kept}
