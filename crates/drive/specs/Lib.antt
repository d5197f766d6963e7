pub mod Drive
pub mod Results
pub mod Tried
