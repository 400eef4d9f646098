pub mod Buffers
pub mod ByteWeights
pub mod Codes
pub mod Found
pub mod Handles
pub mod Held
pub mod Notices
pub mod Settings
