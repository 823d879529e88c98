-- Sound sets: what the rules 7 to 12 say of each row, and that the parts of a sound set fit and make its rows.
pub mod Facts
pub mod Rows
pub mod Slots
pub mod Above
pub mod ToFit
pub mod Canonical
