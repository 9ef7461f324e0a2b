pub mod Calls
pub mod Entries
pub mod FormLemmas
pub mod Numbers
pub mod Results
pub mod ValueByValue
