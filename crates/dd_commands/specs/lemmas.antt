pub mod Forms
pub mod Items
pub mod Words
pub mod Commands
pub mod Whole
