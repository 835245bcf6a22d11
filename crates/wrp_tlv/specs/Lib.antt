pub mod Appending
pub mod Octets
pub mod TlvAt
pub mod TlvList
pub mod WhiteRabbit
pub mod WhiteRabbitList
