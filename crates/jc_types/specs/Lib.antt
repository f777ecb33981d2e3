pub mod Inline
pub mod KeyInside
pub mod ValueInside
pub mod Limits
pub mod Refusals
pub mod Stripes
