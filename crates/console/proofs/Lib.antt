-- Laws on the program's turns, and what they come to: Printing.
pub mod Turning
pub mod Serving
pub mod Printing
