pub mod Faithful
pub mod Outcomes
pub mod ConfigsBack
pub mod GivenBack
pub mod WrittenCases
