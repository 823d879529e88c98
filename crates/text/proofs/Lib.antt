-- The laws of lines and of answers stand with their modules; here stands the listing as a whole.
pub mod Ends
