-- The promises: what they are about, what they say, and the machine seen as the abstract collector.
pub mod Reachable
pub mod Deeds
pub mod Plans
pub mod Known
pub mod Objects
pub mod Sessions
pub mod Told
pub mod Demand2
pub mod Demand3
pub mod Marks
pub mod Sharper
pub mod View
pub mod Instances
pub mod CycleInstances
pub mod SharperInstances
