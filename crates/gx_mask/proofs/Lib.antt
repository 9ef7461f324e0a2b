mod Counting
mod Filling
mod Pairs
mod Represents
mod Searching
mod Writing
