-- The boundary term of a bound: an upper bound for what Side(n), the box of side n, receives from outside. Along each vector,
-- this is the greatest amount times the number of positions that receive from outside.
use Rattle.std.specs.Prelude.{ℕ, ◌+◌, ◌-◌, ◌*◌, ◌^◌, Bool, cond, ℤ, unsigned_abs, List, [], ◌∷◌, take, drop}
use Rattle.dd_lattice.specs.{Place.Place, Boxes.is_active}
use Rattle.dd_expansion.specs.Limits.{greatest}

-- How many coordinates of Side(n) on an axis are left when those that receive from outside are taken away. Here c is the vector's entry for this
-- axis. On an active axis (one of the first d) this is max(0, n - |c|), otherwise 1.
abbrev pub left_on : Bool → ℕ → ℤ → ℕ
left_on active n c = cond active (n - unsigned_abs c) 1

-- how many positions of Side(n) receive along v from inside it: the product over the axes
abbrev pub inner_count : ℕ → ℕ → Place → ℕ
inner_count d n v = left_on (is_active d 0) n v.x * (left_on (is_active d 1) n v.y * left_on (is_active d 2) n v.z)

-- how many positions of Side(n) receive along v from outside it
abbrev pub outer_count : ℕ → ℕ → Place → ℕ
outer_count d n v = n ^ d - inner_count d n v

-- The boundary term: the sum, over the vectors, of the greatest amount along the vector times `outer_count`. What a position gives along a vector
-- depends on its pattern: the symbols of a box around the position. `patterns` is the number of patterns. `amounts` has one amount for each pattern
-- along the first vector, then along the second, and so on.
abbrev pub boundary : ℕ → ℕ → ℕ → List Place → List ℕ → ℕ
boundary d n patterns [] amounts = 0
boundary d n patterns (v ∷ vs) amounts = greatest (take patterns amounts) * outer_count d n v + boundary d n patterns vs (drop patterns amounts)
