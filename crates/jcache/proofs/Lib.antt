mod Streams
mod Teams
