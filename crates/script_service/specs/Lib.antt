-- What the program reads and writes, and when it ends how.
pub mod Statuses
pub mod Units
pub mod Endings
pub mod Demos
pub mod Streams
pub mod Serving
pub mod Outcomes
pub mod Sending
