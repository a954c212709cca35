pub mod Numbers
pub mod Places
pub mod Laws
pub mod Left
