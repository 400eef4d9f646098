pub mod CopyLaws
pub mod CountLaws
pub mod LookLaws
pub mod MemoryLaws
pub mod NoticeLaws
pub mod WorkedReplies
