pub mod Again
pub mod Alone
pub mod Laws
pub mod Pace
pub mod Rest
pub mod Slow
pub mod Worked
