pub mod Kept
pub mod EntryLaws
pub mod MessageLaws
pub mod ReadBack
