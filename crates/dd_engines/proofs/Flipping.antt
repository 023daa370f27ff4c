-- How a flip changes the counts of true literals. A clause's count rises by one for each time that the clause contains the literal made
-- true, and falls by one for each time that it contains this literal's negation.
use Rattle.std.proofs.Common.{◌≡◌, ℕ, zero, suc, ◌+◌, ◌-◌, ◌^◌, ◌<◌, ◌≤◌, Bool, true, false, cond, not, List, [], ◌∷◌, ◌++◌, refl, sym, ◌∙◌, ap, subst, inl, inr, length, get_or, map, arith, append_assoc, length-append}
use Rattle.std.proofs.Math.ListN.{set, replicate}
use Rattle.std.proofs.lemmas.Bool.{cases_eq, ne_eqb, eq-eqb, false≢true}
use Rattle.std.proofs.lemmas.{List.set_at, List.get_or-set_other, Grind.get_or-set_at, List.Sums.sum_by-cons}
use Rattle.std.proofs.lemmas.List.Elements.{All-head, All-tail}
use Rattle.std.specs.{Bool.beq, List.All}
use Rattle.dd_clause.specs.declared.clause.Literal.{Literal}
use Rattle.dd_clause.specs.Clauses.{negation, IsLiteralInRange, IsClauseInRange, is_true_under}
use Rattle.dd_values.specs.Variables.{true_variables}
use Rattle.dd_derivation.specs.Derivations.{same_literal}
use Rattle.dd_engines.specs.Walks.{made_true}
use Rattle.dd_engines.specs.walking.Truths.{true_count, times_in, occurrences, more, less, changed}

times : (ℕ → ℕ) → ℕ → ℕ → ℕ
times f zero x = x
times f (suc h) x = times f h (f x)

changed-append : (f : ℕ → ℕ) (xs ys counts : List ℕ) → changed f (xs ++ ys) counts ≡ changed f ys (changed f xs counts)
changed-append f [] ys counts = refl
changed-append f (x ∷ xs) ys counts = changed-append f xs ys (set counts x (f (get_or counts x 0)))

read_at : (pre : List ℕ) (x : ℕ) (ys : List ℕ) (n : ℕ) → length pre ≡ n → get_or (pre ++ x ∷ ys) n 0 ≡ x
read_at pre x ys n e = subst (λ (k : ℕ). get_or (pre ++ x ∷ ys) k 0 ≡ x) e (here pre)
  where
    here : (pre : List ℕ) → get_or (pre ++ x ∷ ys) (length pre) 0 ≡ x
    here [] = refl
    here (p ∷ pre) = here pre

changed_same : (f : ℕ → ℕ) (h : ℕ) (pre : List ℕ) (x : ℕ) (ys : List ℕ) (n : ℕ) → length pre ≡ n → changed f (replicate h n) (pre ++ x ∷ ys) ≡ pre ++ times f h x ∷ ys
unfolding times
changed_same f zero pre x ys n e = refl
changed_same f (suc h) pre x ys n e =
    let written : set (pre ++ x ∷ ys) n (f (get_or (pre ++ x ∷ ys) n 0)) ≡ pre ++ f x ∷ ys = ap (λ (y : ℕ). set (pre ++ x ∷ ys) n (f y)) (read_at pre x ys n e) ∙ set_at pre x ys (f x) n e in
    ap (changed f (replicate h n)) written ∙ changed_same f h pre (f x) ys n e

changed_occurrences : (f : ℕ → ℕ) (g : List Literal → ℕ) (l : Literal) (cs : List (List Literal)) (pre : List ℕ) (n : ℕ) → length pre ≡ n
    → changed f (occurrences l n cs) (pre ++ map g cs) ≡ pre ++ map (λ c. times f (times_in l c) (g c)) cs
changed_occurrences f g l [] pre n e = refl
changed_occurrences f g l (c ∷ cs) pre n e =
    let z = times f (times_in l c) (g c) in
    changed-append f (replicate (times_in l c) n) (occurrences l (n + 1) cs) (pre ++ g c ∷ map g cs)
    ∙ ap (changed f (occurrences l (n + 1) cs)) (changed_same f (times_in l c) pre (g c) (map g cs) n e ∙ sym (append_assoc pre (z ∷ []) (map g cs)))
    ∙ changed_occurrences f g l cs (pre ++ z ∷ []) (n + 1) (omega (arith, length-append pre (z ∷ []), e))
    ∙ append_assoc pre (z ∷ []) (map (λ d. times f (times_in l d) (g d)) cs)

times_more : (h x : ℕ) → x + h ≤ 2 ^ 64 - 1 → times more h x ≡ x + h
unfolding times
times_more zero x fits = omega arith
times_more (suc h) x fits =
    let one : more x ≡ x + 1 = omega (arith, fits) in
    rw one (times_more h (x + 1) (omega (arith, fits)) ∙ omega arith)

times_less : (h x : ℕ) → times less h x ≡ x - h
unfolding times
times_less zero x = omega arith
times_less (suc h) x = times_less h (x - 1) ∙ omega arith

-- How a flip changes one literal of a clause. Here `t` and `new` say whether this literal is true before and after the flip, `a` whether it is the
-- literal that the flip makes true, and `b` whether it is the negation of that literal.
record Balance (t new a b : Bool) : Type 0 where
  balance : cond new 1 0 + cond b 1 0 ≡ cond t 1 0 + cond a 1 0
  few : cond t 1 0 + cond a 1 0 ≤ 1

by_signs : (l m v : Bool) → cond l v (not v) ≡ false → Balance (cond m v (not v)) (cond m l (not l)) (beq l m) (beq (not l) m)
by_signs true true true h = absurd (false≢true (sym h))
by_signs true true false h = record { balance = refl; few = omega arith }
by_signs true false true h = absurd (false≢true (sym h))
by_signs true false false h = record { balance = refl; few = omega arith }
by_signs false true true h = record { balance = refl; few = omega arith }
by_signs false true false h = absurd (false≢true (sym h))
by_signs false false true h = record { balance = refl; few = omega arith }
by_signs false false false h = absurd (false≢true (sym h))

unchanged : (t : Bool) → Balance t t false false
unchanged true = record { balance = refl; few = omega arith }
unchanged false = record { balance = refl; few = omega arith }

one_literal : (values : List Bool) (l m : Literal) → IsLiteralInRange (length values) l → IsLiteralInRange (length values) m → is_true_under (true_variables values) l ≡ false
    → Balance (is_true_under (true_variables values) m) (is_true_under (true_variables (made_true values l)) m) (same_literal l m) (same_literal (negation l) m)
one_literal values l m range range_m is_false = elim (cases_eq l.variable m.variable) [
  | inl e ↦
      let read : get_or (made_true values l) (m.variable - 1) false ≡ l.positive = get_or-set_at values (l.variable - 1) (m.variable - 1) l.positive false (omega (arith, e)) (omega (arith, range.0, range.1)) in
      let old : get_or values (m.variable - 1) false ≡ get_or values (l.variable - 1) false = ap (λ (k : ℕ). get_or values (k - 1) false) (sym e) in
      rw (read, old, eq-eqb _ _ e) (by_signs l.positive m.positive (get_or values (l.variable - 1) false) is_false)
  | inr ne ↦
      let read : get_or (made_true values l) (m.variable - 1) false ≡ get_or values (m.variable - 1) false = get_or-set_other values (l.variable - 1) (m.variable - 1) l.positive false
      (λ f. ne (omega (arith, f, range.0, range_m.0))) in
      rw (read, ne_eqb l.variable m.variable ne) (unchanged (is_true_under (true_variables values) m))
]

record Balanced (values : List Bool) (l : Literal) (c : List Literal) : Type 0 where
  balance : true_count (made_true values l) c + times_in (negation l) c ≡ true_count values c + times_in l c
  few : true_count values c + times_in l c ≤ length c

balanced : (values : List Bool) (l : Literal) → IsLiteralInRange (length values) l → is_true_under (true_variables values) l ≡ false → (c : List Literal) → IsClauseInRange (length values) c → Balanced values l c
balanced values l range is_false [] all = record { balance = refl; few = omega arith }
balanced values l range is_false (m ∷ c) all =
    let here = one_literal values l m range (All-head (IsLiteralInRange (length values)) m c all) is_false in
    let rest = balanced values l range is_false c (All-tail (IsLiteralInRange (length values)) m c all) in
    record {
      balance = omega (arith, here.balance, rest.balance, sum_by-cons (λ x. cond (is_true_under (true_variables (made_true values l)) x) 1 0) m c, sum_by-cons (λ x. cond (same_literal (negation l) x) 1 0) m c, sum_by-cons (λ x. cond (is_true_under (true_variables values) x) 1 0) m c, sum_by-cons (λ x. cond (same_literal l x) 1 0) m c);
      few = omega (arith, here.few, rest.few, sum_by-cons (λ x. cond (is_true_under (true_variables values) x) 1 0) m c, sum_by-cons (λ x. cond (same_literal l x) 1 0) m c);
    }

one_clause : (values : List Bool) (l : Literal) (c : List Literal) → Balanced values l c → length c < 2 ^ 64 → times less (times_in (negation l) c) (times more (times_in l c) (true_count values c)) ≡ true_count (made_true values l) c
one_clause values l c b short =
    ap (times less (times_in (negation l) c)) (times_more (times_in l c) (true_count values c) (omega (arith, b.few, short)))
    ∙ times_less (times_in (negation l) c) (true_count values c + times_in l c)
    ∙ omega (arith, b.balance)

-- clauses whose literals are in range, and whose lengths fit in 64 bits
pub record Fits (n : ℕ) (cs : List (List Literal)) : Type 0 where
  pub range : All (IsClauseInRange n) cs
  pub short : All (λ c. length c < 2 ^ 64) cs

every_clause : (values : List Bool) (l : Literal) → IsLiteralInRange (length values) l → is_true_under (true_variables values) l ≡ false → (cs : List (List Literal)) → Fits (length values) cs
    → map (λ c. times less (times_in (negation l) c) (times more (times_in l c) (true_count values c))) cs ≡ map (true_count (made_true values l)) cs
every_clause values l range is_false [] fits = refl
every_clause values l range is_false (c ∷ cs) fits =
    let here = one_clause values l c (balanced values l range is_false c (All-head (IsClauseInRange (length values)) c cs fits.range)) (All-head (λ d. length d < 2 ^ 64) c cs fits.short) in
    let rest = every_clause values l range is_false cs (record { range = All-tail (IsClauseInRange (length values)) c cs fits.range; short = All-tail (λ d. length d < 2 ^ 64) c cs fits.short }) in
    rw (here, rest) refl

pub flipped_counts : (values : List Bool) (l : Literal) (cs : List (List Literal)) → IsLiteralInRange (length values) l → is_true_under (true_variables values) l ≡ false → Fits (length values) cs
    → changed less (occurrences (negation l) 0 cs) (changed more (occurrences l 0 cs) (map (true_count values) cs)) ≡ map (true_count (made_true values l)) cs
flipped_counts values l cs range is_false fits =
    ap (changed less (occurrences (negation l) 0 cs)) (changed_occurrences more (true_count values) l cs [] 0 refl)
    ∙ changed_occurrences less (λ c. times more (times_in l c) (true_count values c)) (negation l) cs [] 0 refl
    ∙ every_clause values l range is_false cs fits
