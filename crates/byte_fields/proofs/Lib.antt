pub mod Found
pub mod FieldLaws
