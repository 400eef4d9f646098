pub mod Ended
pub mod Endings
pub mod Forms
pub mod Kept
pub mod StepForms
