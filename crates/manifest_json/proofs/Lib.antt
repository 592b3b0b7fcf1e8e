-- For callers: other crates cite KeptLemmas, Loops, Places. Nothing else is cited from outside.
pub mod FieldsBack
pub mod HoldersBack
pub mod KeptLemmas
pub mod ListsBack
pub mod Loops
pub mod PartsBack
pub mod NamesKept
pub mod Places
pub mod WriteLoops
