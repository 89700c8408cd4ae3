-- Why a block is still here: what a path is, and what the reason and the call's answer mean.
pub mod Leads
pub mod Means
pub mod Answers
pub mod Instances
