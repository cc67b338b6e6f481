pub mod Commas
pub mod Cutting
pub mod Calls
pub mod Taking
pub mod Bank
pub mod Listing
pub mod Enough
pub mod Carded
