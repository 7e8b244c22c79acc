mod Beats
mod Ended
mod Gathering
mod Feeds
pub mod Going
mod Whole
