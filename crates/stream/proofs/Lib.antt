-- Laws on numbers and codes, and what they come to: RoundTrip and Exact.
pub mod Words
pub mod Readings
pub mod RoundTrip
pub mod Exact
