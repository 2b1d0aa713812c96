pub mod Lexemes
pub mod Trees
pub mod Grammar
pub mod Longest
pub mod Forms
pub mod Parsing
pub mod Limits
pub mod CutForms
