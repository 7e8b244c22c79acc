pub mod StepLaws
pub mod JournalLaws
pub mod TextLaws
pub mod Legal
