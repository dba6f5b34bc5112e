pub mod KeySizes
