pub mod Fields
pub mod KeyTables
