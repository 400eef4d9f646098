pub mod Callers
pub mod FittingEnds
pub mod KeptCalls
pub mod KeptCopies
pub mod KeptTurns
pub mod KeptViews
pub mod KeptWrites
pub mod Owed
