-- To be read in this order: the demands, what they cite, and what is shut out.
pub mod Demands
pub mod Determined
pub mod Exchange
pub mod Life
pub mod Unsent
pub mod StandIns
pub mod WrongAnswers
pub mod MixedSlips
pub mod MixedFigures
pub mod Figures
