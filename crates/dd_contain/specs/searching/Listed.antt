-- How far the search has come in a list of periods, and what it may ask.
use Rattle.std.specs.{Prelude.ℕ, Prelude.◌<◌, Prelude.◌≤◌, Prelude.◌≡◌, Prelude.List, Prelude.Some, Prelude.slice_get, List.Contains}
use Rattle.dd_pattern.specs.{declared.periods.Periods.Periods, Periods.AreWithin}

-- none of the first n periods in the list satisfies T
abbrev pub NoneBefore : (Periods → Type 0) → List Periods → ℕ → Type 0
NoneBefore T ps n = (k : ℕ) (q : Periods) → k < n → slice_get ps k ≡ Some q → T q → ⊥

-- p is the first in the list that satisfies T; its index is `place`
pub record IsFirstOf (T : Periods → Type 0) (ps : List Periods) (p : Periods) : Type 0 where
  pub place : ℕ
  pub stands : slice_get ps place ≡ Some p
  pub shows : T p
  pub before : NoneBefore T ps place

-- the search may ask about each radius from `least` to `most`
abbrev pub AsksRadii : (ℕ → Type 0) → ℕ → ℕ → Type 0
AsksRadii A least most = (n : ℕ) → least ≤ n → n ≤ most → A n

-- the search may ask about all periods in the list
abbrev pub AsksListed : (Periods → Type 0) → List Periods → Type 0
AsksListed A ps = (p : Periods) → Contains ps p → A p

-- the search may ask about all periods in d dimensions that are at most n along each axis
abbrev pub AsksWithin : (Periods → Type 0) → ℕ → ℕ → Type 0
AsksWithin A d n = (p : Periods) → AreWithin d n p → A p
