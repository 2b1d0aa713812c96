pub mod VectorSet
pub mod Order
pub mod Partition
