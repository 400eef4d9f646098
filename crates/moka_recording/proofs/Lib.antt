pub mod Apart
pub mod Moves
pub mod Places
pub mod Tokens
pub mod Witnesses
