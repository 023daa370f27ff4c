-- Limits on what a script may write. The header of `src/limits.rt` explains the words.
use Rattle.std.specs.Prelude.{ℕ}

-- the greatest dimension
abbrev pub most_axes : ℕ
most_axes = 3

-- the greatest number of letters of a word
abbrev pub most_letters : ℕ
most_letters = 32

-- the greatest absolute value of a number
abbrev pub greatest_number : ℕ
greatest_number = 1000000

-- the greatest number of nodes
abbrev pub most_nodes : ℕ
most_nodes = 4

-- the greatest number of symbols
abbrev pub most_symbols : ℕ
most_symbols = 16

-- the greatest number of edges of a topology
abbrev pub most_edges : ℕ
most_edges = 64

-- the greatest number of moves of a term
abbrev pub most_moves : ℕ
most_moves = 16

-- the greatest number of balls of a quantifier
abbrev pub most_balls : ℕ
most_balls = 4

-- the greatest number of cells in the fundamental box (the box that repeats) of a configuration or a torus
abbrev pub most_in_box : ℕ
most_in_box = 65536

-- the greatest number of vectors of a discharge
abbrev pub most_vectors : ℕ
most_vectors = 16

-- the greatest absolute value of an entry, both in an edge's offset (from the position of its first node to that of its second)
-- and in a vector of a discharge
abbrev pub farthest : ℕ
farthest = 4

-- the greatest period of a strip
abbrev pub longest_strip : ℕ
longest_strip = 64
