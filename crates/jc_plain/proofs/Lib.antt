mod Loads
mod Passing
