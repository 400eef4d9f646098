pub mod NumberedLemmas
pub mod TiedLemmas
pub mod RoomLemmas
pub mod LivedLemmas
pub mod FindLemmas
pub mod Walks
