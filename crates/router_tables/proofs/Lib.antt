mod Applying
mod Changing
mod Emptying
mod Forwarded
mod Opening
mod Rooms
mod Taking
