-- Laws of sums and slots, then those of each loop; `Joined` takes what one function leaves to what the next wants.
pub mod SlotLaws
pub mod Parts
pub mod Counting
pub mod One
pub mod All
pub mod Starts
pub mod Places
pub mod Lists
pub mod Joined
