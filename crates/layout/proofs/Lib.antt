pub mod MaskTests
pub mod LayoutLengths
pub mod GreatestLength
pub mod MixedTests
pub mod MixedLengths
