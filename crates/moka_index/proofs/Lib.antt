pub mod Callers
pub mod ChainLemmas
pub mod NodeLemmas
pub mod DequeLemmas
pub mod PathLemmas
pub mod IndexLemmas
pub mod LinkLemmas
