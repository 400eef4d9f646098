mod Given
mod HeldBox
mod NumbersHeld
mod Opened
mod Sending
pub mod Stored
mod StringsHeld
