pub mod WritableLaws
pub mod Measuring
pub mod Weighing
pub mod Parts
pub mod AgreeLaws
pub mod Joining
pub mod AskingLaws
