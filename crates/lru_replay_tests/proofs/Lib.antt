pub mod MappedKeys
pub mod Results
