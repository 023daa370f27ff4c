-- fillings of consecutive slices of a strip, configurations with the strip's periods, and their least density
pub mod Strips
-- what a certificate says about fillings of any number of slices, and about configurations
pub mod Claims
