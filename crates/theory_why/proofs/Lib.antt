-- Why a block is still here: the reason is the true one, and the call tells it. Read in this order.
pub mod Paths
pub mod Reasons
pub mod Means
pub mod Answers
pub mod Instances
