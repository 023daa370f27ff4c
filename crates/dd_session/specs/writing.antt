-- whole answers, or their first lines
pub mod Forms
-- why a call that writes failed
pub mod Faults
