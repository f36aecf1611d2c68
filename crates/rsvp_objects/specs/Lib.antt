pub mod Below
pub mod Framing
pub mod Kinds
pub mod Objects
pub mod Ranges
pub mod Raw
pub mod RawLaws
pub mod Values
