-- Laws of the loops on plain values, then what the tables say of the paper's objects.
pub mod CountedRows
pub mod OwnParts
pub mod Entries
pub mod ObjectRows
pub mod Tallies
pub mod SentObjects
