mod Loops
mod Outcomes
mod Rules
mod Steps
mod Tested
