-- How many values differ from those of a landmark, and what follows when the walk is back at the landmark.
use Rattle.std.proofs.Common.{◌≡◌, ℕ, zero, suc, ◌+◌, ◌-◌, ◌%◌, ◌<◌, ◌≤◌, Bool, true, false, not, List, [], ◌∷◌, Option, Some, None, refl, sym, ◌∙◌, ap, subst, inl, inr, ◌⊎◌, length, get_or, arith}
use Rattle.std.proofs.Math.{ListN.set, Nat.mod-add-mod}
use Rattle.std.proofs.lemmas.Nat.Gcd.{dvd_of_mod-eq-zero, mod-eq-zero_of_dvd, dvd_trans}
use Rattle.std.proofs.lemmas.Bool.{cases_lt}
use Rattle.std.specs.{Bool.beq, Option.IfSome, Option.IsSomeAnd, Option.option_and_then}
use Rattle.dd_clause.specs.{declared.clause.Literal.Literal, Clauses.ClauseList}
use Rattle.dd_engines.specs.{declared.cycle.Landmark.Landmark, Walks.values_after, Walks.first_unsatisfied, Walks.flipped, Walks.NoneBefore}
use Rattle.dd_engines.specs.walking.Cycles.{differences, IsPeriod, IsPeriodWith, IsCounted, IsBack, IsSameOrNew}
use Rattle.dd_engines.proofs.Repeating.{flip_alike}

pub differences_self : (xs : List Bool) → differences xs xs ≡ 0
differences_self [] = refl
differences_self (true ∷ xs) = omega (arith, differences_self xs)
differences_self (false ∷ xs) = omega (arith, differences_self xs)

pub differences_few : (xs ys : List Bool) → differences xs ys ≤ length xs
differences_few [] ys = omega arith
differences_few (x ∷ xs) [] = omega arith
differences_few (true ∷ xs) (true ∷ ys) = omega (arith, differences_few xs ys)
differences_few (true ∷ xs) (false ∷ ys) = omega (arith, differences_few xs ys)
differences_few (false ∷ xs) (true ∷ ys) = omega (arith, differences_few xs ys)
differences_few (false ∷ xs) (false ∷ ys) = omega (arith, differences_few xs ys)

pub no_difference : (xs ys : List Bool) → length xs ≡ length ys → differences xs ys ≡ 0 → xs ≡ ys
no_difference [] [] long none = refl
no_difference [] (y ∷ ys) long none = absurd (omega (arith, long))
no_difference (x ∷ xs) [] long none = absurd (omega (arith, long))
no_difference (true ∷ xs) (true ∷ ys) long none = ap (λ (zs : List Bool). true ∷ zs) (no_difference xs ys (omega (arith, long)) (omega (arith, none)))
no_difference (true ∷ xs) (false ∷ ys) long none = absurd (omega (arith, none))
no_difference (false ∷ xs) (true ∷ ys) long none = absurd (omega (arith, none))
no_difference (false ∷ xs) (false ∷ ys) long none = ap (λ (zs : List Bool). false ∷ zs) (no_difference xs ys (omega (arith, long)) (omega (arith, none)))

pub changed_same : (xs ys : List Bool) (i : ℕ) → length xs ≡ length ys → i < length ys → beq (get_or xs i false) (get_or ys i false) ≡ true → differences xs (set ys i (not (get_or ys i false))) ≡ differences xs ys + 1
changed_same [] [] i long lt same = absurd (omega (arith, lt))
changed_same [] (y ∷ ys) i long lt same = absurd (omega (arith, long))
changed_same (x ∷ xs) [] i long lt same = absurd (omega (arith, lt))
changed_same (true ∷ xs) (true ∷ ys) zero long lt same = omega arith
changed_same (true ∷ xs) (false ∷ ys) zero long lt same = absurd (cc same)
changed_same (false ∷ xs) (true ∷ ys) zero long lt same = absurd (cc same)
changed_same (false ∷ xs) (false ∷ ys) zero long lt same = omega arith
changed_same (x ∷ xs) (y ∷ ys) (suc i) long lt same = omega (arith, changed_same xs ys i (omega (arith, long)) (omega (arith, lt)) same)

pub changed_other : (xs ys : List Bool) (i : ℕ) → length xs ≡ length ys → i < length ys → beq (get_or xs i false) (get_or ys i false) ≡ false → differences xs ys ≡ differences xs (set ys i (not (get_or ys i false))) + 1
changed_other [] [] i long lt other = absurd (omega (arith, lt))
changed_other [] (y ∷ ys) i long lt other = absurd (omega (arith, long))
changed_other (x ∷ xs) [] i long lt other = absurd (omega (arith, lt))
changed_other (true ∷ xs) (true ∷ ys) zero long lt other = absurd (cc other)
changed_other (true ∷ xs) (false ∷ ys) zero long lt other = omega arith
changed_other (false ∷ xs) (true ∷ ys) zero long lt other = omega arith
changed_other (false ∷ xs) (false ∷ ys) zero long lt other = absurd (cc other)
changed_other (x ∷ xs) (y ∷ ys) (suc i) long lt other = omega (arith, changed_other xs ys i (omega (arith, long)) (omega (arith, lt)) other)

-- a positive multiple of a period is a period
period_more : (cnf : ClauseList) (from to period next : ℕ) → 0 < next → next % period ≡ 0 → IsPeriod cnf from to period → IsPeriod cnf from to next
period_more cnf from to period next some multiple is = (
  some,
  λ i values clause after before at takes has. mod-eq-zero_of_dvd (length clause) (dvd_trans (length clause) (dvd_of_mod-eq-zero (length clause) (is.1 i values clause after before at takes has)) (dvd_of_mod-eq-zero period multiple)),
)

period_on : (cnf : ClauseList) (from to next : ℕ) (period : Option ℕ) → IfSome period (IsPeriod cnf from to) → IsSomeAnd period (λ t. next % t ≡ 0) → 0 < next → IsPeriod cnf from to next
period_on cnf from to next None periods multiple some = absurd multiple
period_on cnf from to next (Some period) periods multiple some = period_more cnf from to period next some multiple periods

-- if no flip was made, each positive number is a period
pub period_none : (cnf : ClauseList) (from to next : ℕ) → 0 < next → from ≡ to → IsPeriod cnf from to next
period_none cnf from to next some same = (some, λ i values clause after before at takes has. absurd (omega (arith, same, after, before)))

same_values : (v w : List Bool) → Some v ≡ Some w → v ≡ w
same_values v w e = cc

same_clause : (c d : List Literal) → Some c ≡ Some d → c ≡ d
same_clause c d e = cc

takes_same : (cnf : ClauseList) (k i : ℕ) (values other : List Bool) (clause taken : List Literal) → i ≡ k → values_after cnf k ≡ Some values → first_unsatisfied values cnf.clauses ≡ Some clause
    → values_after cnf i ≡ Some other → first_unsatisfied other cnf.clauses ≡ Some taken → clause ≡ taken
takes_same cnf k i values other clause taken same reached first at takes =
    let equal : other ≡ values = same_values other values (sym at ∙ ap (values_after cnf) same ∙ reached) in
    same_clause clause taken (sym first ∙ ap (λ (v : List Bool). first_unsatisfied v cnf.clauses) (sym equal) ∙ takes)

-- a period that is a multiple of the next clause's length is still a period after the next flip
period_next : (cnf : ClauseList) (from k period : ℕ) (values : List Bool) (clause : List Literal) → values_after cnf k ≡ Some values → first_unsatisfied values cnf.clauses ≡ Some clause → (0 < length clause → period % length clause ≡ 0)
    → IsPeriod cnf from k period → IsPeriod cnf from (k + 1) period
period_next cnf from k period values clause reached first here is = (
  is.0,
  λ i other taken after before at takes has. elim (cases_lt i k) [
    | inl earlier ↦ is.1 i other taken after earlier at takes has
    | inr past ↦
        let same : i ≡ k = omega (arith, before, past) in
        subst (λ (c : List Literal). 0 < length c → period % length c ≡ 0) (takes_same cnf k i values other clause taken same reached first at takes) here has
  ],
)

period_before : (cnf : ClauseList) (old new : Landmark) (kept : List Bool) (k next : ℕ) (period : Option ℕ) → IfSome period (IsPeriod cnf old.flips k) → IsSameOrNew old new kept k → 0 < next
    → (new.flips ≡ k) ⊎ IsSomeAnd period (λ t. next % t ≡ 0) → IsPeriod cnf new.flips k next
period_before cnf old new kept k next period periods same some (inl at) = period_none cnf new.flips k next some at
period_before cnf old new kept k next period periods (inr now) some (inr multiple) = period_none cnf new.flips k next some now.1
period_before cnf old new kept k next period periods (inl same) some (inr multiple) = subst (λ (f : ℕ). IsPeriod cnf f k next) (sym same.1) (period_on cnf old.flips k next period periods multiple some)

-- the next period is a period of all flips since the landmark
pub period_kept : (cnf : ClauseList) (old new : Landmark) (kept : List Bool) (k : ℕ) (period next : Option ℕ) (values : List Bool) (clause : List Literal) → IfSome period (IsPeriod cnf old.flips k) → IsSameOrNew old new kept k
    → IfSome next (IsPeriodWith new.flips k period (length clause)) → values_after cnf k ≡ Some values → first_unsatisfied values cnf.clauses ≡ Some clause → IfSome next (IsPeriod cnf new.flips (k + 1))
period_kept cnf old new kept k period None values clause periods same with_length reached first = tt
period_kept cnf old new kept k period (Some next) values clause periods same with_length reached first =
    period_next cnf new.flips k next values clause reached first with_length.1 (period_before cnf old new kept k next period periods same with_length.0 with_length.2)

alike : (n j k : ℕ) → j < k → (k - j) % n ≡ 0 → j % n ≡ k % n
alike n j k less none =
    let at : (k - j) + j ≡ k = omega (arith, less) in
    let here : 0 + j ≡ j = omega arith in
    ap (λ (m : ℕ). m % n) (sym here) ∙ ap (λ (r : ℕ). (r + j) % n) (sym none) ∙ mod-add-mod (k - j) n j ∙ ap (λ (m : ℕ). m % n) at

-- The values after m flips are those after a smaller number of flips, which is at least j and less than k. The difference of m and this number is a
-- multiple of the period, so the next flips pick the same literals.
record IsAsBefore (cnf : ClauseList) (j k period m : ℕ) : Type 0 where
  at : ℕ
  after : j ≤ at
  before : at < k
  less : at < m
  multiple : (m - at) % period ≡ 0
  same : values_after cnf at ≡ values_after cnf m

step_here : (j k : ℕ) (values : List Bool) (o : Option (List Literal)) → ((c : List Literal) → o ≡ Some c → 0 < length c → j % length c ≡ k % length c) → option_and_then (flipped j values) o ≡ option_and_then (flipped k values) o
step_here j k values None picks = refl
step_here j k values (Some c) picks = flip_alike j k values c (picks c refl)

steps_here : (cnf : ClauseList) (j k : ℕ) (o : Option (List Bool)) → ((values : List Bool) (c : List Literal) → o ≡ Some values → first_unsatisfied values cnf.clauses ≡ Some c → 0 < length c → j % length c ≡ k % length c)
    → option_and_then (λ values. option_and_then (flipped j values) (first_unsatisfied values cnf.clauses)) o ≡ option_and_then (λ values. option_and_then (flipped k values) (first_unsatisfied values cnf.clauses)) o
steps_here cnf j k None picks = refl
steps_here cnf j k (Some values) picks = step_here j k values (first_unsatisfied values cnf.clauses) (λ c. picks values c refl)

next_here : (cnf : ClauseList) (j k : ℕ) → values_after cnf j ≡ values_after cnf k → ((values : List Bool) (c : List Literal) → values_after cnf j ≡ Some values → first_unsatisfied values cnf.clauses ≡ Some c → 0 < length c → j % length c ≡ k % length c)
    → values_after cnf (suc j) ≡ values_after cnf (suc k)
next_here cnf j k same picks =
    steps_here cnf j k (values_after cnf j) picks
    ∙ ap (option_and_then (λ values. option_and_then (flipped k values) (first_unsatisfied values cnf.clauses))) same

both : (a b n : ℕ) → a % n ≡ 0 → b % n ≡ 0 → (a + b) % n ≡ 0
both a b n one two =
    let here : 0 + b ≡ b = omega arith in
    sym (mod-add-mod a n b) ∙ ap (λ (r : ℕ). (r + b) % n) one ∙ ap (λ (m : ℕ). m % n) here ∙ two

next_as : (cnf : ClauseList) (j k period m : ℕ) → j < k → (k - j) % period ≡ 0 → IsPeriod cnf j k period → values_after cnf j ≡ values_after cnf k → IsAsBefore cnf j k period m → IsAsBefore cnf j k period (suc m)
next_as cnf j k period m less multiple is back b =
    let next : values_after cnf (suc b.at) ≡ values_after cnf (suc m) =
    next_here cnf b.at m b.same (λ values c reached takes has. alike (length c) b.at m b.less (mod-eq-zero_of_dvd (length c) (dvd_trans (length c) (dvd_of_mod-eq-zero (length c) (is.1 b.at values c b.after b.before reached takes has)) (dvd_of_mod-eq-zero period b.multiple)))) in
    elim (cases_lt (suc b.at) k) [
      | inl within ↦
          let far : m - b.at ≡ suc m - suc b.at = omega arith in
          record { at = suc b.at; after = omega (arith, b.after); before = within; less = omega (arith, b.less); multiple = subst (λ (n : ℕ). n % period ≡ 0) far b.multiple; same = next }
      | inr past ↦
          let end : suc b.at ≡ k = omega (arith, past, b.before) in
          let far : (m - b.at) + (k - j) ≡ suc m - j = omega (arith, end, b.less, less) in
          record {
            at = j;
            after = omega arith;
            before = less;
            less = omega (arith, b.less, b.after);
            multiple = subst (λ (n : ℕ). n % period ≡ 0) far (both (m - b.at) (k - j) period b.multiple multiple);
            same = back ∙ ap (values_after cnf) (sym end) ∙ next;
          }
    ]

as_before : (cnf : ClauseList) (j k period : ℕ) → j < k → (k - j) % period ≡ 0 → IsPeriod cnf j k period → values_after cnf j ≡ values_after cnf k → (d : ℕ) → IsAsBefore cnf j k period (d + k)
as_before cnf j k period less multiple is back zero =
    let here : k ≡ 0 + k = omega arith in
    subst (λ (m : ℕ). IsAsBefore cnf j k period m) here (record { at = j; after = omega arith; before = less; less = less; multiple = multiple; same = back })
as_before cnf j k period less multiple is back (suc d) =
    let next : suc (d + k) ≡ suc d + k = omega arith in
    subst (λ (m : ℕ). IsAsBefore cnf j k period m) next (next_as cnf j k period (d + k) less multiple is back (as_before cnf j k period less multiple is back d))

-- Let the walk have the same values after j flips as after k flips, and let k - j be a positive multiple of a period of the flips j to k - 1. If no
-- values after fewer than k flips satisfy the clauses, no values do: all later values have occurred before.
none_after : (cnf : ClauseList) (j k period : ℕ) → j < k → (k - j) % period ≡ 0 → IsPeriod cnf j k period → values_after cnf j ≡ values_after cnf k → NoneBefore cnf k → (n : ℕ) → NoneBefore cnf n
none_after cnf j k period less multiple is back none n m values lt reached satisfying = elim (cases_lt m k) [
  | inl before ↦ none m values before reached satisfying
  | inr past ↦
      let at : (m - k) + k ≡ m = omega (arith, past) in
      let b = as_before cnf j k period less multiple is back (m - k) in
      none b.at values b.before (b.same ∙ ap (values_after cnf) at ∙ reached) satisfying
]

-- the landmark always holds one of the walk's assignments
pub kept_reached : (cnf : ClauseList) (old new : Landmark) (values : List Bool) (k : ℕ) → IsSameOrNew old new values k → values_after cnf old.flips ≡ Some old.values.items → values_after cnf k ≡ Some values → values_after cnf new.flips ≡ Some new.values.items
kept_reached cnf old new values k (inl same) old_reached reached = ap (values_after cnf) same.1 ∙ old_reached ∙ ap (λ (v : List Bool). Some v) (sym same.0)
kept_reached cnf old new values k (inr now) old_reached reached = ap (values_after cnf) now.1 ∙ reached ∙ ap (λ (v : List Bool). Some v) (sym now.0)

-- A walk that is back, in the sense of `IsBack`, goes round in a cycle. If no earlier values satisfy the clauses, none ever do.
pub none_ever : (cnf : ClauseList) (landmark : Landmark) (values : List Bool) (period : Option ℕ) (k : ℕ) → IfSome period (IsPeriod cnf landmark.flips k) → IsBack landmark period k → IsCounted landmark values
    → values_after cnf landmark.flips ≡ Some landmark.values.items → values_after cnf k ≡ Some values → NoneBefore cnf k → (n : ℕ) → NoneBefore cnf n
none_ever cnf landmark values None k periods back counted kept reached none = absurd back.is_multiple
none_ever cnf landmark values (Some period) k periods back counted kept reached none =
    let same = no_difference landmark.values.items values counted.long (sym counted.counted ∙ back.same) in
    none_after cnf landmark.flips k period back.later back.is_multiple periods (kept ∙ ap (λ (v : List Bool). Some v) same ∙ sym reached) none
