-- A dictionary gives its basic variables v, and the objective z, in terms of its nonbasic variables w:
-- x_v = bound v - Σ_w entry v w · x_w and z = value + Σ_w cost w · x_w (Dantzig, Linear Programming and Extensions, 1963;
-- in this form Chvátal, Linear Programming, 1983). The equation for x_v is the row of v.
-- Column j is the variable j, and the slack of row k is the variable columns + k. The bound of v matters only if v is basic, the cost of w only if w is
-- nonbasic, and the entry of v at w only if both hold. A run begins with a program's first dictionary, and each pivot makes the next one.
use Rattle.std.specs.Prelude.{ℕ, ◌+◌, ◌-◌, length, Bool, not, ◌&&◌, ◌||◌, cond}
use Rattle.std.specs.Bool.{nat_eq, nat_lt}
use Rattle.dd_fraction.specs.Exact.{Exact, plus, times, minus, inverse}
use Rattle.dd_simplex.specs.Programs.{LinearProgram, coefficient, bound_at, unit, zero_of, one_of}

pub record Dictionary : Type 0 where
  pub is_basic : ℕ → Bool
  pub bound : ℕ → Exact
  pub entry : ℕ → ℕ → Exact
  pub value : Exact
  pub cost : ℕ → Exact

-- the number of variables: the columns and the slacks
abbrev pub count : LinearProgram → ℕ
count p = p.columns + length p.rows

-- the first dictionary: the slacks are basic, and the objective is column 0
abbrev pub start_dictionary : LinearProgram → Dictionary
start_dictionary p = record {
  is_basic = λ v. not (nat_lt v p.columns);
  bound = λ v. bound_at p (v - p.columns);
  entry = λ v w. coefficient p (v - p.columns) w;
  value = zero_of;
  cost = λ w. unit 0 w;
}

abbrev pub fraction_quotient : Exact → Exact → Exact
fraction_quotient a b = times a (inverse b)

abbrev pub less_product : Exact → Exact → Exact → Exact
less_product a q b = plus a (minus (times q b))

-- In a pivot, the variable e enters, so it becomes basic, and r leaves. The new row of e is the old row of r, solved for e. Its bound is `new_bound`.
abbrev pub new_bound : Dictionary → ℕ → ℕ → Exact
new_bound d e r = fraction_quotient (d.bound r) (d.entry r e)

-- the entry of the new row of e at w; at w = r it comes from the coefficient 1 of r in the old row of r
abbrev pub new_entry : Dictionary → ℕ → ℕ → ℕ → Exact
new_entry d e r w = fraction_quotient (cond (nat_eq w r) one_of (d.entry r w)) (d.entry r e)

-- The new coefficient of w in a row that stays or in the objective. The old coefficient of w was a, and that of e was q. If w is r, a is not used,
-- since r was basic and so had the coefficient 0.
abbrev pub replaced : Dictionary → ℕ → ℕ → Exact → ℕ → Exact → Exact
replaced d e r q w a = cond (nat_eq w r) (minus (times q (new_entry d e r w))) (less_product a q (new_entry d e r w))

-- the dictionary after e has entered and r has left
abbrev pub pivoted : Dictionary → ℕ → ℕ → Dictionary
pivoted d e r = record {
  is_basic = λ v. nat_eq v e || (d.is_basic v && not (nat_eq v r));
  bound = λ v. cond (nat_eq v e) (new_bound d e r) (less_product (d.bound v) (d.entry v e) (new_bound d e r));
  entry = λ v w. cond (nat_eq v e) (new_entry d e r w) (replaced d e r (d.entry v e) w (d.entry v w));
  value = plus d.value (times (d.cost e) (new_bound d e r));
  cost = λ w. replaced d e r (d.cost e) w (d.cost w);
}
