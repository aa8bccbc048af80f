-- Request 13's totals; how they grow; totals with room for more; the files of a stream.
pub mod Season
pub mod Plus
pub mod Room
pub mod Stream
