-- The figure of each room is the rule's.
pub mod Rooms
