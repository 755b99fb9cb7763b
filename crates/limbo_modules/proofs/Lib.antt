mod Defining
mod Single
mod Circles
mod Failing
mod Telling
mod Assembling
