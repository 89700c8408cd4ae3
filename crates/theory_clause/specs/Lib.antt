-- Clause 14: an export is complete, or says that it is not; and what is exported lasts.
pub mod Lasting
pub mod Stopping
pub mod Objects
pub mod Instances
pub mod ObjectInstances
