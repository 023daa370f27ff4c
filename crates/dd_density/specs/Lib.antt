-- the answers that `least_density` gives
pub mod Densities
-- certificates and answers over a given transfer graph
pub mod graphs
