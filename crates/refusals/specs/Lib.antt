pub mod Shape
pub mod Handed
pub mod Normals
pub mod Steered
pub mod After
pub mod Refused
