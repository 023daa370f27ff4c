pub mod Lines
pub mod Board
pub mod Checked
