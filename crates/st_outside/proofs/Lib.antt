pub mod ContentsLemmas
pub mod SinkLemmas
pub mod Walks
