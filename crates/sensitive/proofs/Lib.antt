pub mod Characters
pub mod Given
pub mod Derived
pub mod Rfc3629
pub mod Texts
pub mod Utf16
