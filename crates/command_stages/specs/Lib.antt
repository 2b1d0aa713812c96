pub mod Report
pub mod Numbers
pub mod Text
pub mod Stage
pub mod Serve
pub mod Finish
pub mod Texts
