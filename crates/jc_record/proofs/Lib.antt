pub mod Common
pub mod RecordLines
