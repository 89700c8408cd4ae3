-- The export of a list, whatever its rows are: what it gives, its answer in numbers, and what that means.
pub mod Shape
pub mod Rows
pub mod Numbers
pub mod Lists
pub mod Meaning
