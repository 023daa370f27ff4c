pub mod CutLaws
pub mod LimitLaws
pub mod PartLaws
pub mod SoundLaws
pub mod TorusLaws
