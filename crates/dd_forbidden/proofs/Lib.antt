pub mod Lists
pub mod ExtensionLaws
pub mod Steps
pub mod SettledLaws
pub mod OneList
