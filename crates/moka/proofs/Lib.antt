-- What callers of a cache conclude from its contracts, passed on to the crates above.
pub use Rattle.moka_base.proofs.Callers
