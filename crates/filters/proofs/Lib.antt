pub mod Naming
pub mod Scopes
pub mod Supported
pub mod Asking
pub mod Sparing
pub mod Walked
pub mod Passing
pub mod Applied
