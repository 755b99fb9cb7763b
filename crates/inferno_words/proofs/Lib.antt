mod Arguments
mod Places
mod Reading
mod Taken
mod Tests
