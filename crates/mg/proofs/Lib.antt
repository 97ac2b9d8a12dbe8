pub mod Zero
pub mod Unique
pub mod StandsFor
pub mod RowsStay
