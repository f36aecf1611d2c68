mod Attended
mod Counting
mod Hearing
mod Receipts
mod Requested
mod Telling
mod Written
