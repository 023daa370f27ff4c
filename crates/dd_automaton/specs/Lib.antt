-- images of configurations, and whether two automata differ at the origin
pub mod Images
