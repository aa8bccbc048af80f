-- What is known of arrays that hold a text's lists, and of faults told.
pub mod Storing
pub mod MoreFans
pub mod MoreSystems
pub mod Telling
