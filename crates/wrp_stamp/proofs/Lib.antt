pub mod MergeError
