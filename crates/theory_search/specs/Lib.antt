-- What a search from the root finds, and by which path: the statements. Nothing here knows where a heap lies.
pub mod Leads
pub mod Means
