pub mod Texts
pub mod Tables
pub mod Properties
pub mod Small
