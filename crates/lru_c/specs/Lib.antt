pub mod Answers
pub mod Bytes
pub mod BytesHandle
pub mod Handle
