-- `Whole`: the test of one entry. `Loops`: the first entry that fails. `Cursor`: a name is sought upwards. `Judging`: one entry under each rule.
-- `OpenRows`: which rows are objects.
pub mod Whole
pub mod Loops
pub mod Cursor
pub mod Judging
pub mod OpenRows
pub mod FromTables
pub mod Stages
pub mod Ready
pub mod First
