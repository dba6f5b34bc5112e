pub mod SamePasswords
