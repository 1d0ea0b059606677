pub mod ChangeText
pub mod Fields
pub mod ScheduleText
pub mod TraceText
