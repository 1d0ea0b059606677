pub mod Count
pub mod Files
pub mod MemoryFiles
pub mod MemorySink
pub mod Sink
pub mod StdFiles
