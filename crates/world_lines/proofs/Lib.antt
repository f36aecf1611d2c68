mod LineLaws
mod NamedLaws
