pub mod DecimalLaws
pub mod LineLaws
pub mod HexadecimalLaws
pub mod Kept
