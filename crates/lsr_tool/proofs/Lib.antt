mod Growing
mod Printing
mod Explaining
mod Told
