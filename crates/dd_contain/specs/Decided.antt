-- Decisions over a range of radii and a range of periods.
use Rattle.std.specs.Prelude.{ℕ, ◌<◌, ◌≤◌, List}
use Rattle.dd_derivation.specs.declared.step.Step.{Step}
use Rattle.dd_pattern.specs.{declared.periods.Periods.Periods, Periods.AreWithin, Periods.IsBefore, Tile.Tile}
use Rattle.dd_contain.specs.declared.decision.Decision.{Decision}
use Rattle.dd_contain.specs.declared.decision.Decision.TheVariants.{Yes, No, Unknown}

-- n is the least number from `least` to `most` that satisfies S
pub record IsLeast (S : ℕ → Type 0) (least most n : ℕ) : Type 0 where
  pub low : least ≤ n
  pub high : n ≤ most
  pub holds : S n
  pub first : (k : ℕ) → least ≤ k → k < n → S k → ⊥

-- no number from `least` to `most` satisfies S
abbrev pub NoneIn : (ℕ → Type 0) → ℕ → ℕ → Type 0
NoneIn S least most = (k : ℕ) → least ≤ k → k ≤ most → S k → ⊥

-- of the periods in d dimensions that are at most n along each axis, with any shear, p is the first that satisfies T, in the order of `IsBefore`
pub record IsFirst (T : Periods → Type 0) (d n : ℕ) (p : Periods) : Type 0 where
  pub within : AreWithin d n p
  pub shows : T p
  pub first : (q : Periods) → AreWithin d n q → IsBefore q p → T q → ⊥

-- no periods in d dimensions that are at most n along each axis, with any shear, satisfy T
abbrev pub NoneWithin : (Periods → Type 0) → ℕ → ℕ → Type 0
NoneWithin T d n = (q : Periods) → AreWithin d n q → T q → ⊥

-- The decision is right and comes with its evidence. Radii are from `least` to `most`, and periods are in d dimensions and at most p along each axis.
-- Here S says that a radius suffices, and R that given steps show this. T says that some configuration of given periods shows the goal, and D that a
-- given configuration of these periods does.
abbrev pub IsDecidedBy : (ℕ → Type 0) → (ℕ → List Step → Type 0) → (Periods → Type 0) → (Periods → Tile → Type 0) → ℕ → ℕ → ℕ → ℕ → Decision → Type 0
IsDecidedBy S R T D least most d p (Yes n steps) = IsLeast S least most n × R n steps
IsDecidedBy S R T D least most d p (No tile) = NoneIn S least most × ((q : Periods) × IsFirst T d p q × D q tile)
IsDecidedBy S R T D least most d p Unknown = NoneIn S least most × NoneWithin T d p
