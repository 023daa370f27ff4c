pub mod RuleLaws
pub mod CutLaws
pub mod FromBox
pub mod ReachLaws
pub mod OneBoxLaws
pub mod SizeLaws
