pub mod Formats
pub mod FormatReading
