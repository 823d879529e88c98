-- The laws of digits, of writers in a row, and of a text read digit by digit.
pub mod Runs
pub mod Decimals
pub mod Digits
pub mod Back
