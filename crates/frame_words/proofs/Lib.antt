-- Laws on the lists of a drive.
pub mod Answers
pub mod Filled
