pub mod ImageLaws
pub mod OriginLaws
