pub mod Unfoldings
pub mod TermsTaken
pub mod StepsLeftOut
pub mod SlimLoops
mod AllStay
