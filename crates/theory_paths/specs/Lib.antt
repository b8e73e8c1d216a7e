-- ARGUMENT §1: one relation, `Word`, does everything. Laws of the definitions of `meaning` (Paths, Lists, Refusals); no definition of 01 stands here.
pub mod Words
pub mod Normal
pub mod Simple
pub mod Valid
pub mod Inclusion
pub mod Spelling
pub mod Good
