pub mod OrderLaws
pub mod CountLaws
pub mod LimitLaws
pub mod ShownLaws
pub mod AnswerLaws
pub mod AskingLaws
