-- Laws on the program's windows, and what they come to: Windows.
pub mod Started
pub mod Running
pub mod Windows
pub mod Stepping
