pub mod KeySetLaws
