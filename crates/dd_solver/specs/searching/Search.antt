-- The state of a search, and why it ends.
use Rattle.std.specs.Prelude.{◌≡◌, ℕ, zero, suc, ◌<◌, ◌+◌, ◌-◌, ◌*◌, ◌^◌, ◌&&◌, ◌++◌, ◌∷◌, Bool, true, if◌then◌else◌, List, [], map, Option, Some, None, is_none, length, take, slice_index_or, MatchOption}
use Rattle.dd_clause.specs.declared.clause.Literal.{Literal}
use Rattle.dd_derivation.specs.declared.propagation.Finding.TheVariants.{Forced, Open}
use Rattle.dd_derivation.specs.declared.step.Step.{Step}
use Rattle.dd_derivation.specs.Derivations.{clause_of, hint_finding, is_among, known_after, is_right, refutes}
use Rattle.dd_derivation.specs.checking.MarksOf.{known_to}
use Rattle.dd_trail.specs.{declared.trail.Entry.Entry, Trails.falses, Reasons.AreInRange, Reasons.IsTrail, Propagation.IsConflict}
use Rattle.dd_solver.specs.declared.analysis.Backjump.{Backjump}

-- the number of variables, the clauses, the steps learned so far, and the trail, which lists the true literals in the order in which they became true
pub record State : Type 0 where
  pub variables : ℕ
  pub clauses : List (List Literal)
  pub steps : List Step
  pub entries : List Entry

-- the clauses by number, none of them deleted
abbrev pub all_known : List (List Literal) → List (Option (List Literal))
all_known clauses = map (λ c. Some c) clauses

-- the known clauses after a step
abbrev pub after_step : List (Option (List Literal)) → Step → List (Option (List Literal))
after_step before s = known_after before s.deletes ++ Some s.clause ∷ []

-- the known clauses after several steps
abbrev pub known_through : List (Option (List Literal)) → List Step → List (Option (List Literal))
known_through before [] = before
known_through before (s ∷ steps) = known_through (after_step before s) steps

-- the clauses of the list and the learned ones, by number, without those that were deleted
abbrev pub known : State → List (Option (List Literal))
known s = known_through (all_known s.clauses) s.steps

-- each step is right, given the clauses that are known after the steps before it
abbrev pub is_derived : ℕ → List (Option (List Literal)) → List Step → Bool
is_derived n before [] = true
is_derived n before (s ∷ steps) = is_right n before s && is_derived n (after_step before s) steps

-- The invariant of the search. The variables of the known clauses are in range. The clauses of the list are all known. The trail's variables are
-- distinct and in range, and each entry was decided or is forced by a known clause. The steps are right.
pub record IsSearch (s : State) : Type 0 where
  pub in_range : AreInRange s.variables (known s)
  pub given : (h : ℕ) (c : List Literal) → clause_of (all_known s.clauses) h ≡ Some c → clause_of (known s) h ≡ Some c
  pub trail : IsTrail s.variables (known s) s.entries
  pub derived : is_derived s.variables (all_known s.clauses) s.steps ≡ true

-- `alive` tells which of the given clauses and the learned ones are known
pub record AreAlive (clauses : List (List Literal)) (steps : List Step) (alive : List Bool) : Type 0 where
  pub as_many : length alive ≡ length clauses + length steps
  pub same : known_to clauses steps alive ≡ known_through (all_known clauses) steps

-- no clause is falsified, and none forces a literal
abbrev pub AreOpen : State → Type 0
AreOpen s = (r : ℕ) → hint_finding (known s) (is_among (falses s.entries)) r ≡ Open

-- all literals of the clause with this number are false
abbrev pub IsFalsified : State → ℕ → Type 0
IsFalsified s r = IsConflict (known s) s.entries r

-- the backjump's place is that of a decision; with only the entries before this place, the last step's clause forces the backjump's literal
pub record IsForced (s : State) (backjump : Backjump) : Type 0 where
  pub within : backjump.place < length s.entries
  pub decided : (d : Entry) → (slice_index_or s.entries backjump.place d).reason ≡ None
  pub forces : hint_finding (known s) (is_among (falses (take backjump.place s.entries))) (length s.clauses + length s.steps) ≡ Forced backjump.literal

-- what holds after the analysis of a conflict: if there is a backjump, the last step's clause forces the backjump's literal once the trail is cut at
-- the backjump's place; if there is none, the steps refute the clauses
abbrev pub GoesOn : State → Option Backjump → Type 0
GoesOn s backjump = MatchOption backjump (refutes s.variables s.clauses s.steps ≡ true) (IsForced s)

-- the digit of an entry: 1 if it was decided, and 2 if it was forced
abbrev pub digit : Bool → ℕ
digit is_decided = if is_decided then 1 else 2

-- The trail is read as a number of n digits in base 3. The first entry gives the leading digit. A place without an entry gives the digit 0. The
-- number rises with each entry that is added and with each backjump. It is below 3 ^ n.
unfoldable pub trail_number : ℕ → List Bool → ℕ
trail_number n [] = 0
trail_number zero (d ∷ ds) = 0
trail_number (suc n) (d ∷ ds) = digit d * 3 ^ n + trail_number n ds

-- for each entry, whether it was decided
abbrev pub decisions : List Entry → List Bool
decisions trail = map (λ e. is_none e.reason) trail

-- how far the trail's number is from its bound 3 ^ n
abbrev pub left : State → ℕ
left s = 3 ^ s.variables - trail_number s.variables (decisions s.entries)
