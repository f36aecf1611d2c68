mod Walks
mod HeadingNames
