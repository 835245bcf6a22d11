pub mod AuditLaws
pub mod AuditLines
pub mod AuditStands
pub mod AuditText
pub mod Audited
pub mod Audits
pub mod Broken
