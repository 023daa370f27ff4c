-- Engines asked in turn, as lists. A round of the engines from some place on extends to a round of all.
use Rattle.std.proofs.Common.{◌≡◌, ℕ, suc, ◌+◌, ◌<◌, ◌≤◌, List, [], ◌∷◌, ◌++◌, Bool, false, refl, sym, ◌∙◌, ap, subst, length, take, drop, get_or, arith, add-one, append_assoc, append-nil, length-take, Result, Ok, Err, Option, Some, None, IsErr}
use Rattle.std.proofs.Math.ListN.{set}
use Rattle.std.proofs.lemmas.List.{drop_more, drop-set, drop-set-lt, drop_all, drop_at, length-set, take-set, take_all, take-append-drop, take-append-le, map-append, take_more_set}
use Rattle.std.specs.List.{remove}
use Rattle.dd_values.specs.Counts.{Rose}
use Rattle.dd_derivation.specs.declared.step.Outcome.{Outcome}
use Rattle.dd_engines.specs.{Proposals.round_end, Rosters.seen_of_engine, Rosters.seen_all}
use Rattle.dd_engines.specs.Rounds.{Seen, AskedOnce, Round, End, found, nothing, memory, all_asked, was_found, at_asking, gave_nothing, was_dropped}

-- an error means that memory ran out, which ends the round
pub ended_err : {F : Type 0} (answer : Result (Option Outcome) F) → IsErr answer → round_end answer ≡ memory
ended_err (Ok (Some x)) is = absurd (cc is)
ended_err (Ok None) is = absurd (cc is)
ended_err (Err e) is = refl

module _ {E : Type 0} (asked given : E → ℕ) (sound : E → Bool) where
  abbrev one : E → Seen
  one = seen_of_engine asked given sound

  abbrev all : List E → List Seen
  all = seen_all asked given sound

  -- Each round of the engines from this place on gives a round of all engines, in which the engines before the place end up as they are now.
  abbrev pub Whole : List Seen → List E → ℕ → Type 0
  Whole before now place = (after : List Seen) (end : End) → Round (all (drop place now)) after end → Round before (all (take place now) ++ after) end

  pub whole_start : (engines : List E) → Whole (all engines) engines 0
  whole_start engines after end round = round

  split_at : (xs : List E) (n : ℕ) (x : E) → x ≡ get_or xs n x → n < length xs → drop n xs ≡ x ∷ drop (n + 1) xs
  split_at xs n x is lt = drop_more xs n x lt ∙ ap (λ (z : E). z ∷ drop (n + 1) xs) (sym is)

  joined : (xs ys : List E) → all xs ++ all ys ≡ all (xs ++ ys)
  joined xs ys = sym (map-append one xs ys)

  -- a list with a new item at a place consists of the part before the place, the new item, and the part after it
  cut : (xs : List E) (n : ℕ) (y : E) → n < length xs → take n xs ++ (y ∷ drop (n + 1) xs) ≡ set xs n y
  cut xs n y lt =
      ap (λ (zs : List E). zs ++ (y ∷ drop (n + 1) xs)) (sym (take-set xs n y))
      ∙ ap (λ (zs : List E). take n (set xs n y) ++ zs) (sym (drop-set xs n y lt))
      ∙ take-append-drop n (set xs n y)

  pub whole_at_end : (before : List Seen) (xs : List E) (n : ℕ) → length xs ≤ n → Whole before xs n → Round before (all xs) nothing
  whole_at_end before xs n past whole =
      let none : drop n xs ≡ [] = drop_all n xs past in
      let ended : Round (all (drop n xs)) [] nothing = subst (λ (l : List E). Round (all l) [] nothing) (sym none) (all_asked nothing (λ e. absurd (cc e))) in
      let whole_of : Round before (all (take n xs) ++ []) nothing = whole [] nothing ended in
      subst (λ (l : List Seen). Round before l nothing) (joined (take n xs) [] ∙ ap all (append-nil (take n xs) ∙ take_all n xs past)) whole_of

  -- if a round of the engines from this place on changes only the first of them, it gives a round of all engines
  changed : (before : List Seen) (xs : List E) (n : ℕ) (x y : E) (end : End) → x ≡ get_or xs n x → n < length xs → Round (one x ∷ all (drop (n + 1) xs)) (one y ∷ all (drop (n + 1) xs)) end → Whole before xs n → Round before (all (set xs n y)) end
  changed before xs n x y end is lt round whole =
      let rest : Round (all (drop n xs)) (all (y ∷ drop (n + 1) xs)) end = rw (split_at xs n x is lt) round in
      subst (λ (l : List Seen). Round before l end) (joined (take n xs) (y ∷ drop (n + 1) xs) ∙ ap all (cut xs n y lt)) (whole (all (y ∷ drop (n + 1) xs)) end rest)

  pub whole_no_memory : (before : List Seen) (xs : List E) (n : ℕ) (x y : E) → x ≡ get_or xs n x → n < length xs → AskedOnce (one x) (one y) → Whole before xs n → Round before (all (set xs n y)) memory
  whole_no_memory before xs n x y is lt once whole = changed before xs n x y memory is lt (at_asking (one x) (one y) (all (drop (n + 1) xs)) once) whole

  pub whole_found : (before : List Seen) (xs : List E) (n : ℕ) (x y : E) → x ≡ get_or xs n x → n < length xs → AskedOnce (one x) (one y) → Rose (given x) (given y) → Whole before xs n → Round before (all (set xs n y)) found
  whole_found before xs n x y is lt once rose whole = changed before xs n x y found is lt (was_found (one x) (one y) (all (drop (n + 1) xs)) once rose) whole

  pub whole_silent : (before : List Seen) (xs : List E) (n : ℕ) (x y : E) → x ≡ get_or xs n x → n < length xs → AskedOnce (one x) (one y) → given y ≡ given x → Whole before xs n → Whole before (set xs n y) (n + 1)
  whole_silent before xs n x y is lt once silent whole after end round =
      let behind : drop (n + 1) (set xs n y) ≡ drop (n + 1) xs = drop-set-lt (n + 1) xs n y (omega arith) in
      let rest : Round (all (drop n xs)) (one y ∷ after) end = rw (split_at xs n x is lt) (gave_nothing (one x) (one y) (all (drop (n + 1) xs)) after end once silent (rw behind at round)) in
      subst (λ (l : List Seen). Round before l end)
      (sym (append_assoc (all (take n xs)) (one y ∷ []) after) ∙ ap (λ (l : List Seen). l ++ after) (joined (take n xs) (y ∷ []) ∙ ap all (sym (take_more_set xs n y lt))))
      (whole (one y ∷ after) end rest)

  pub whole_dropped : (before : List Seen) (xs zs : List E) (n : ℕ) (x y : E) → x ≡ get_or xs n x → n < length xs → sound x ≡ false → zs ≡ remove (set xs n y) n → Whole before xs n → Whole before zs n
  whole_dropped before xs zs n x y is lt unsound removed whole after end round =
      let front : take n zs ≡ take n xs =
      ap (take n) removed
      ∙ take-append-le n (take n (set xs n y)) (drop (suc n) (set xs n y)) (omega (arith, length-take n (set xs n y), length-set xs n y))
      ∙ take_all n (take n (set xs n y)) (omega (arith, length-take n (set xs n y)))
      ∙ take-set xs n y in
      let here : drop n zs ≡ drop (n + 1) xs =
      ap (drop n) removed
      ∙ drop_at (take n (set xs n y)) (drop (suc n) (set xs n y)) n (omega (arith, length-take n (set xs n y), length-set xs n y))
      ∙ drop-set-lt (suc n) xs n y (omega arith)
      ∙ ap (λ (k : ℕ). drop k xs) (sym (add-one n)) in
      let rest : Round (all (drop n xs)) after end = rw (split_at xs n x is lt) (was_dropped (one x) (all (drop (n + 1) xs)) after end unsound (rw here at round)) in
      rw front (whole after end rest)
