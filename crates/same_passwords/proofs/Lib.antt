pub mod Beginnings
pub mod SamePasswords
