-- `Loops`: the search for the first fault, for any test of a row. `Judging`: a rule that is judged by such a test. `Turns`: what each rule's own
-- function wants of a row. `Stages`: the rules one after the other. `Behind`: what is known behind the rule of the copies. `Examining`: the head,
-- the walk and the rules together.
pub mod Loops
pub mod Judging
pub mod Stages
pub mod Turns
pub mod Behind
pub mod Examining
pub mod Told
