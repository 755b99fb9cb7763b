mod Fronts
mod Patterns
mod Told
