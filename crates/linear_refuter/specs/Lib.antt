pub mod Cut
pub mod Sum
pub mod Refutation
pub mod Answer
pub mod TightPart
pub mod SumEnds
pub mod inside
