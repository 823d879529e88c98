-- Laws that code cites: rules 9 to 12 in forms that cost a row O(1), and what the rows of a spread are.
pub mod Covered
pub mod Lowest
pub mod Slots
pub mod SlotClosures
pub mod Spread
pub mod Sizes
pub mod SpreadRows
pub mod Written
pub mod Marks
pub mod Counts
