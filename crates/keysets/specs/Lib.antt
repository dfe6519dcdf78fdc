pub mod KeySets
pub mod Tables
