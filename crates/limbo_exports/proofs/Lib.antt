pub mod Lists
pub mod Numbers
pub mod Builtin
pub mod Exporting
