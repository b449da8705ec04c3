mod Rows
mod Replies
mod Keeping
