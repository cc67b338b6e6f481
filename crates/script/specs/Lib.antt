pub mod Printed
pub mod Commands
pub mod Transcript
pub mod Listed
pub mod Serving
pub mod Rooms
pub mod Example
