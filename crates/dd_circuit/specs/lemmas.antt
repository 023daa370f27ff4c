pub mod GateLists
pub mod ValueLaws
