mod Lines
mod Listed
mod Opcodes
mod Plain
