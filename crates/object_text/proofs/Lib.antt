pub mod Growing
mod Names
