pub mod Common
mod Essences
mod AlikeScenes
mod Keys
mod Runs
mod Scenes
mod AllMoves
mod Finals
mod Searching
mod Closing
mod Shortest
mod Meeting
mod Counting
mod Telling
