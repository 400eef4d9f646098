pub mod PredicateId
