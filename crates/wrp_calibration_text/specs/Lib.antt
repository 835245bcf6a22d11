pub mod Met
pub mod Reading
pub mod Text
