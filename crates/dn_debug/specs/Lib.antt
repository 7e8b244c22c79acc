pub mod Watching
pub mod Lines
pub mod Courses
pub mod Situations
pub mod Steps
pub mod Transcript
pub mod Replying
pub mod Conversing
