mod Labelling
mod Pairs
mod Sharing
mod Telling
mod Tunnelling
mod Verdicts
mod Wanting
