mod Told
mod Rows
mod Nested
mod Views
