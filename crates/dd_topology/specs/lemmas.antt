pub mod ListLaws
pub mod NamingLaws
pub mod OrderLaws
pub mod ExtentLaws
