-- That what is exported lasts, what stopping means, and instances.
pub mod Steadiness
pub mod Following
pub mod Lasting
pub mod Stopping
pub mod Objects
pub mod Sparing
pub mod Instances
pub mod ObjectInstances
