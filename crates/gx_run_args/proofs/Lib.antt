pub mod CountLemmas
pub mod GivenLemmas
