mod DeclaringLaws
mod PlayLaws
mod AnswerLaws
mod LabLaws
