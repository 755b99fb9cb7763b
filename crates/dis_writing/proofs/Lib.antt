mod Steps
mod Whole
