pub mod GateLaws
pub mod ModelLaws
