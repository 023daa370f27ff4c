pub mod MarksOf
