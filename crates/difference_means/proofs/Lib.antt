-- What is shown stands in Theorems; the other files are the way to it.
pub mod Theorems
-- Lines in lists, and entries that stand for parameters.
pub mod InLists
pub mod Partners
pub mod ParameterLines
-- What an accepted message holds, by what it meets.
pub mod Shallow
pub mod ParametersStand
pub mod Sides
pub mod Holding
-- What lines say, and when there are none.
pub mod LinesSay
pub mod ByName
pub mod NoDifference
-- How many there are at most.
pub mod FewLines
