pub mod Callers
pub mod CounterTables
pub mod NumberHashes
