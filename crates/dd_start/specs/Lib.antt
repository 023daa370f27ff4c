-- the defaults, and the sets of symbols that nodes allow
pub mod Start
