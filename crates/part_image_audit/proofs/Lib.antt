-- Laws of the heap that an image holds, where its cells lie, and its registers read.
pub mod Held
pub mod Laid
