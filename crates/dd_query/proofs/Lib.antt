pub mod PlaceLaws
pub mod VectorLaws
pub mod ShapeLaws
pub mod TorusLaws
pub mod AskedLaws
