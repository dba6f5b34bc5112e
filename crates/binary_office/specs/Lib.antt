pub mod Fields
pub mod KeySizes
pub mod Look
pub mod Records
pub mod Remainder
pub mod SameLock
pub mod SharedLocks
pub mod Walk
