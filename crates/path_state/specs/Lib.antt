pub mod Expiries
pub mod Origins
