pub mod Values
pub mod Filling
pub mod ValueBytes
pub mod RecordFields
pub mod Totals
pub mod Promise
pub mod RecordReadBack
