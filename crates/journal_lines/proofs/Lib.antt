mod Entering
mod Naming
mod Showing
