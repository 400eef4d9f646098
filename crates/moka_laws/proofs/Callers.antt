-- Lemmas that callers of a cache use with its contracts.
pub use Rattle.moka_laws.proofs.FoundAgain.{end_of_lives, moment_of_write, found-after_insert, none-after_insert, found-in_time}
