mod Freed
mod Summed
