pub mod Beats
pub mod TagError
pub mod UnwrapLaws
