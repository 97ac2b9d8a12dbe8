pub mod Digits
pub mod Printed
pub mod Decimals
pub mod StandsFor
