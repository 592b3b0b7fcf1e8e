pub mod Forms
pub mod Grammar
pub mod Headers
pub mod Reads
