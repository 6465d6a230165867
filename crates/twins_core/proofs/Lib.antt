pub mod SameCodes
pub mod Firsts
pub mod Meetings
pub mod Tables
