-- look-ups: which symbol is read at each cell
pub mod Reading
-- fillings: finitely many cells, with a symbol for each
pub mod Filling
-- periods, which give the vectors along which a configuration repeats
pub mod Periods
-- periodic configurations: the symbols of one fundamental box give every cell its symbol
pub mod Tile
-- weights of symbols
pub mod Weight
-- definitions for the loops that list periods
pub mod listing
-- lemmas on these definitions, with their proofs
pub mod lemmas
