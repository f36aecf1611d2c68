mod Checked
mod Living
mod Sessions
mod Recorded
mod Worlds
