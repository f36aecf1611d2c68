mod Showing
mod Capturing
mod FileLaws
mod PacketLists
