-- For callers: other crates cite ShownLaws, SpanLaws. Nothing else is cited from outside.
pub mod CutLaws
pub mod ReadLaws
pub mod ShownLaws
pub mod ReplyLaws
pub mod AuditTerms
pub mod AgreeLaws
pub mod SpanLaws
pub mod ActingLaws
pub mod OverlapLaws
pub mod MemberLaws
pub mod ToldLaws
pub mod OrderLaws
pub mod LineLaws
