-- The lemmas that the crates above use.
pub use Rattle.moka_value_invariant.proofs.KeptCalls.{steps-keep, reply-keeps, said-keeps}
pub use Rattle.moka_value_invariant.proofs.KeptCopies.{copy-keeps}
pub use Rattle.moka_value_invariant.proofs.KeptViews.{kept-opening, kept-followed, kept-after, kept-told, kept-reply}
pub use Rattle.moka_value_invariant.proofs.FittingEnds.{turns-fit, ticket-fits}
