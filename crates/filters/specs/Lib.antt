pub mod Sets
pub mod Readings
pub mod Effects
pub mod Nfcs
pub mod NfcLaws
