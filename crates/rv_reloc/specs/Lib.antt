pub mod Table
pub mod Form
pub mod Field
pub mod Formula
pub mod Bytes
pub mod Applied
