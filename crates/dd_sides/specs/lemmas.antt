pub mod AxisLaws
pub mod BoxLaws
pub mod WordLaws
pub mod GroundCells
