pub mod StreamLaws
pub mod LineReadingLaws
