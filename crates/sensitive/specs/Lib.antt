pub mod Ansi
pub mod Chars
pub mod Derived
pub mod Padded
pub mod Utf16
pub mod Utf8
