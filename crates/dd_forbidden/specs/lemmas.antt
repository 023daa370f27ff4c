pub mod SayingLaws
