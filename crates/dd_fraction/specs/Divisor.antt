-- The greatest common divisor of two natural numbers.
use Rattle.std.specs.Prelude.{ℕ, zero, suc, ◌%◌}

-- the result of at most n steps of Euclid's algorithm (Elements, book VII)
abbrev pub common_within : ℕ → ℕ → ℕ → ℕ
common_within zero a b = a
common_within (suc n) a zero = a
common_within (suc n) a (suc b) = common_within n (suc b) (a % suc b)

-- the greatest common divisor: b decreases in each step of Euclid's algorithm, so b + 1 steps suffice
unfoldable pub greatest_common : ℕ → ℕ → ℕ
greatest_common a b = common_within (suc b) a b
