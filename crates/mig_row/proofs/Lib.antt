pub mod Belonging
pub mod Musts
