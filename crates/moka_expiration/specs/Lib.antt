pub mod Behaviour
pub mod ExpirationPolicy
pub mod Plain
pub mod StateData
