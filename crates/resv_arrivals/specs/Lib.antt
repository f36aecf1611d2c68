pub mod Below
pub mod Conflicts
pub mod Judgements
pub mod Progresses
