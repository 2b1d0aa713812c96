pub mod Store
pub mod inside
