pub mod GetLaws
pub mod HistoryLaws
pub mod LegalRun
pub mod RunLaws
