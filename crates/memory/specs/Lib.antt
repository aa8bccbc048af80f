-- The program's memories: how each moves, and the machine that it is; and the open memory of a ring.
pub mod Living
pub mod Sum
pub mod Run
pub mod Owed
pub mod Pattern
pub mod Open
