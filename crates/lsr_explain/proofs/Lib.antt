mod Values
mod TopicLaws
mod Printing
mod Nearness
mod AskingLaws
