pub mod Exact
pub mod Names
pub mod Numbers
pub mod Only
pub mod Texts
pub mod Verdict
