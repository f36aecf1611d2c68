mod Answering
mod Within
