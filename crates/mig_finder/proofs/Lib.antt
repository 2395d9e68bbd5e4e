pub mod Names
pub mod Records
pub mod Laws
pub mod Lists
pub mod Steps
pub mod Leads
