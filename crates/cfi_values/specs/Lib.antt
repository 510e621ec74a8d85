pub mod Then
pub mod Some
pub mod Due
pub mod Lists
