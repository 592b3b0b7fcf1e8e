-- ---- the reach of a document
pub mod Reaches
