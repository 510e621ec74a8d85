pub mod Setting
pub mod inner
