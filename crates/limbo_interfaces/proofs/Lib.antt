mod Added
mod Declared
mod Exported
mod Numbered
