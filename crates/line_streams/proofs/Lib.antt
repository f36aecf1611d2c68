pub mod CutLaws
pub mod Reading
