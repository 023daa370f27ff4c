pub mod InOrderLaws
pub mod BoxLaws
pub mod RangeLaws
pub mod PositionLaws
pub mod SearchLaws
pub mod MoveLaws
