-- Limits that more than one crate uses.
use Rattle.std.specs.Prelude.{ℕ, ◌^◌}

-- the greatest number of variables in a clause list, and in a circuit, where each input and each gate has a variable
abbrev pub most_variables : ℕ
most_variables = 2 ^ 24

-- the greatest absolute value of a number in an output; numbers in refutations may be greater
abbrev pub most_number : ℕ
most_number = 2 ^ 40

-- the greatest length of a script, in bytes
abbrev pub most_script : ℕ
most_script = 1048576

-- the greatest number of commands in a script, and so the greatest number of its queries
abbrev pub most_commands : ℕ
most_commands = 1000

-- the greatest weight of a symbol
abbrev pub most_weight : ℕ
most_weight = 1000

-- the greatest radius of a ball in a formula, and the greatest radius and margin of a discharging query
abbrev pub widest_radius : ℕ
widest_radius = 3

-- the highest limit that a script may set on the radii of the boxes that the search tries
abbrev pub greatest_radius : ℕ
greatest_radius = 8

-- the highest limit that a script may set on the periods of the tori that the search tries
abbrev pub greatest_period : ℕ
greatest_period = 8

-- the highest limit that a script may set on the number of pivots
abbrev pub most_pivots : ℕ
most_pivots = 100000
