pub mod Form
pub mod NoForm
