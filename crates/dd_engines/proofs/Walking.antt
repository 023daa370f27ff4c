-- The flips of a walk.
use Rattle.std.proofs.Common.{◌≡◌, ℕ, zero, suc, ◌+◌, ◌-◌, ◌*◌, ◌%◌, ◌<◌, ◌≤◌, Bool, true, false, cond, eqb, List, [], ◌∷◌, Some, refl, sym, ◌∙◌, ap, subst, inl, inr, length, get_or, map, arith, add-one}
use Rattle.std.proofs.{Math.ListN.set, lemmas.Bool.cases_Bool, lemmas.Bool.cases_lt, lemmas.Bool.false≢true}
use Rattle.std.proofs.lemmas.List.{length-map, length-set, Sums.sum_by-cons}
use Rattle.std.proofs.lemmas.{List.Elements.All-weaker, List.Elements.All-same, Option.slice_get-get_or}
use Rattle.std.specs.List.{All, count_by, slice_get}
use Rattle.dd_clause.specs.declared.clause.Literal.{Literal}
use Rattle.dd_clause.specs.Clauses.{ClauseList, negation, IsLiteralInRange, IsClauseInRange, is_true_under, Satisfies}
use Rattle.dd_values.specs.Variables.{true_variables}
use Rattle.dd_engines.specs.Walks.{made_true, first_unsatisfied, values_after, NoneBefore, IsFirstOnWalk}
use Rattle.dd_engines.specs.walking.Truths.{true_count, occurrences, more, less, changed, HasMarks, NoneIsZero, IsFirstZero}
use Rattle.dd_engines.specs.{walking.Walking.Walks, declared.chains.Chains.Chains}
use Rattle.dd_engines.specs.walking.Chains.{HasChain, numbers_of, IsListingOf}
use Rattle.dd_engines.proofs.{Places.occurrences_within, Flipping.flipped_counts}
use Rattle.dd_engines.proofs.Finding.{counts_of, first_by_counts, none_by_counts, not_satisfied}

one_at_most : (b : Bool) → cond b 1 0 ≤ 1
one_at_most true = omega arith
one_at_most false = omega arith

has_chain : (n : ℕ) (chains : Chains) (l : Literal) → length chains.firsts.items ≡ 2 * n → IsLiteralInRange n l → HasChain chains l
has_chain n chains l long range = (range.0, omega (arith, long, range.0, range.1, one_at_most l.positive))

-- a literal in range has a chain
pub chain_there : (n : ℕ) (clauses : List (List Literal)) (chains : Chains) (l : Literal) → IsListingOf chains n clauses → IsLiteralInRange n l → HasChain chains l
chain_there n clauses chains l listing range = has_chain n chains l listing.long range

-- each clause in a literal's chain has a count
pub within_counts : (clauses : List (List Literal)) (values : List Bool) (counts : List ℕ) (marks : List Bool) (start : ℕ) (chains : Chains) (l : Literal) → Walks clauses values counts marks start → IsListingOf chains (length values) clauses → IsLiteralInRange (length values) l → All (λ k. k < length counts) (numbers_of chains l)
within_counts clauses values counts marks start chains l walks listing range =
    let long : length counts ≡ length clauses = ap length walks.counted ∙ length-map clauses (true_count values) in
    let within = occurrences_within l clauses 0 in
    All-same (λ k. k < length counts) (numbers_of chains l) (occurrences l 0 clauses) (listing.chained l (chain_there (length values) clauses chains l listing range))
    (All-weaker (λ k. k < 0 + length clauses) (λ k. k < length counts) (λ k h. omega (arith, h, long)) (occurrences l 0 clauses) within)

pub length-changed : (f : ℕ → ℕ) (ks counts : List ℕ) → length (changed f ks counts) ≡ length counts
length-changed f [] counts = refl
length-changed f (k ∷ ks) counts = length-changed f ks (set counts k (f (get_or counts k 0))) ∙ length-set counts k (f (get_or counts k 0))

-- after a flip the changed counts agree with the new values
pub flip_walks : (clauses : List (List Literal)) (values : List Bool) (counts new_counts : List ℕ) (marks new_marks : List Bool) (start new_start : ℕ) (chains : Chains) (l : Literal) → Walks clauses values counts marks start → IsListingOf chains (length values) clauses → IsLiteralInRange (length values) l → is_true_under (true_variables values) l ≡ false
    → new_counts ≡ changed less (numbers_of chains (negation l)) (changed more (numbers_of chains l) counts) → HasMarks new_counts new_marks new_start → Walks clauses (made_true values l) new_counts new_marks new_start
flip_walks clauses values counts new_counts marks new_marks start new_start chains l walks listing range is_false made are_marked =
    let long : length (made_true values l) ≡ length values = length-set values (l.variable - 1) l.positive in
    let at : numbers_of chains l ≡ occurrences l 0 clauses = listing.chained l (chain_there (length values) clauses chains l listing range) in
    let other : numbers_of chains (negation l) ≡ occurrences (negation l) 0 clauses = listing.chained (negation l) (chain_there (length values) clauses chains (negation l) listing range) in
    record {
      range = subst (λ (n : ℕ). All (IsClauseInRange n) clauses) (sym long) walks.range;
      short = walks.short;
      counted = made ∙ rw (at, other, walks.counted) (flipped_counts values l clauses range is_false (record { range = walks.range; short = walks.short }));
      are_marked = are_marked;
    }

-- what is kept of a walk stays right if the counts are the same and the new marks agree with them
pub looked_walks : (clauses : List (List Literal)) (values : List Bool) (counts new_counts : List ℕ) (marks new_marks : List Bool) (start new_start : ℕ) → Walks clauses values counts marks start
    → new_counts ≡ counts → HasMarks new_counts new_marks new_start → Walks clauses values new_counts new_marks new_start
looked_walks clauses values counts new_counts marks new_marks start new_start walks same are_marked = record {
  range = walks.range;
  short = walks.short;
  counted = same ∙ walks.counted;
  are_marked = are_marked;
}

one_of : (b : Bool) → b ≡ true → 1 ≤ cond b 1 0
one_of true t = omega arith
one_of false t = absurd (false≢true t)

none_true_in : (p : Literal → Bool) (xs : List Literal) → count_by p xs ≡ 0 → (k : ℕ) (d : Literal) → k < length xs → p (get_or xs k d) ≡ false
none_true_in p [] none k d lt = absurd (omega (arith, lt))
none_true_in p (x ∷ xs) none zero d lt = elim (cases_Bool (p x)) [
  | inl t ↦ absurd (omega (arith, sum_by-cons (λ y. cond (p y) 1 0) x xs, none, one_of (p x) t))
  | inr f ↦ f
]
none_true_in p (x ∷ xs) none (suc k) d lt = none_true_in p xs (omega (arith, sum_by-cons (λ y. cond (p y) 1 0) x xs, none)) k d (omega (arith, lt))

get_or-map : (f : List Literal → ℕ) (xs : List (List Literal)) (k : ℕ) → k < length xs → get_or (map f xs) k 0 ≡ f (get_or xs k [])
get_or-map f [] k lt = absurd (omega (arith, lt))
get_or-map f (x ∷ xs) zero lt = refl
get_or-map f (x ∷ xs) (suc k) lt = get_or-map f xs k (omega (arith, lt))

read_default : (xs : List (List Literal)) (k : ℕ) (x d : List Literal) → k < length xs → x ≡ get_or xs k x → x ≡ get_or xs k d
read_default [] k x d lt is = absurd (omega (arith, lt))
read_default (y ∷ xs) zero x d lt is = is
read_default (y ∷ xs) (suc k) x d lt is = read_default xs k x d (omega (arith, lt)) is

-- the clause that the next flip takes: the first without a true literal
pub record FoundClause (clauses : List (List Literal)) (values : List Bool) (clause : List Literal) : Type 0 where
  pub first : first_unsatisfied values clauses ≡ Some clause
  pub range : IsClauseInRange (length values) clause
  pub are_false : (k : ℕ) (d : Literal) → k < length clause → is_true_under (true_variables values) (get_or clause k d) ≡ false

pub found_clause : (clauses : List (List Literal)) (values : List Bool) (counts : List ℕ) (marks : List Bool) (start : ℕ) (place : ℕ) (clause : List Literal) → Walks clauses values counts marks start → IsFirstZero counts place → clause ≡ get_or clauses place clause
    → FoundClause clauses values clause
found_clause clauses values counts marks start place clause walks none at =
    let within : place < length clauses = omega (arith, none.within, ap length walks.counted, length-map clauses (true_count values)) in
    let zero : get_or (counts_of values clauses) place 0 ≡ 0 = subst (λ (cs : List ℕ). get_or cs place 0 ≡ 0) walks.counted none.none in
    let before = subst (λ (cs : List ℕ). IsFirstZero cs place) walks.counted none in
    let here : clause ≡ get_or clauses place [] = read_default clauses place clause [] within at in
    record {
      first = first_by_counts values clauses place within zero before.before ∙ slice_get-get_or clauses place clause within ∙ ap (λ (c : List Literal). Some c) (sym at);
      range = subst (IsClauseInRange (length values)) (sym here) (walks.range place [] within);
      are_false = none_true_in (is_true_under (true_variables values)) clause (ap (true_count values) here ∙ sym (get_or-map (true_count values) clauses place within) ∙ zero);
    }

place_within : (clauses : List (List Literal)) (values : List Bool) (counts : List ℕ) (marks : List Bool) (start : ℕ) (place : ℕ) → Walks clauses values counts marks start → IsFirstZero counts place → place < length clauses
place_within clauses values counts marks start place walks none = omega (arith, none.within, ap length walks.counted, length-map clauses (true_count values))

pub at_place : (read clauses : List (List Literal)) (place : ℕ) (clause item : List Literal) → clause ≡ item → item ≡ get_or read place item → read ≡ clauses → clause ≡ get_or clauses place clause
at_place read clauses place clause item same is equal = same ∙ is ∙ ap (λ (d : List Literal). get_or read place d) (sym same) ∙ ap (λ (cs : List (List Literal)). get_or cs place clause) equal

self_default : (xs : List (List Literal)) (k : ℕ) → k < length xs → get_or xs k [] ≡ get_or xs k (get_or xs k [])
self_default [] k lt = absurd (omega (arith, lt))
self_default (x ∷ xs) zero lt = refl
self_default (x ∷ xs) (suc k) lt = self_default xs k (omega (arith, lt))

pub rem_within : (k n : ℕ) → false ≡ eqb n 0 → k % n < n
rem_within k zero some = absurd (false≢true some)
rem_within k (suc n) some = let above : 0 < suc n = omega arith in omega (arith, above)

some_same : (v w : List Bool) → Some v ≡ Some w → v ≡ w
some_same v w e = cc

-- if no earlier values satisfy the clauses, and the present ones leave a clause without a true literal, no values up to now satisfy the clauses
pub none_more : (cnf : ClauseList) (values : List Bool) (k : ℕ) (c : List Literal) → values_after cnf k ≡ Some values → first_unsatisfied values cnf.clauses ≡ Some c → NoneBefore cnf k → NoneBefore cnf (k + 1)
none_more cnf values k c reached first before j other lt at satisfying = elim (cases_lt j k) [
  | inl earlier ↦ before j other earlier at satisfying
  | inr past ↦
      let same : j ≡ k = omega (arith, lt, past) in
      let here : values_after cnf j ≡ Some values = ap (values_after cnf) same ∙ reached in
      let equal : other ≡ values = some_same other values (sym at ∙ here) in
      not_satisfied values cnf.clauses c first (subst (λ (v : List Bool). Satisfies (true_variables v) cnf.clauses) equal satisfying.1)
]

pub reached_more : (cnf : ClauseList) (values : List Bool) (k : ℕ) (c : List Literal) (m : Literal) → values_after cnf k ≡ Some values → first_unsatisfied values cnf.clauses ≡ Some c → slice_get c (k % length c) ≡ Some m → values_after cnf (k + 1) ≡ Some (made_true values m)
reached_more cnf values k c m reached first at = rw (add-one k) (rw (reached, first, at) refl)

pub first_at : (cnf : ClauseList) (values : List Bool) (counts : List ℕ) (marks : List Bool) (start : ℕ) (k flips : ℕ) → Walks cnf.clauses values counts marks start → length values ≡ cnf.variables → NoneIsZero counts → k ≤ flips → values_after cnf k ≡ Some values → NoneBefore cnf k → IsFirstOnWalk cnf flips values
first_at cnf values counts marks start k flips walks long none few reached before = record {
  count = k;
  few = few;
  reached = reached;
  satisfying = (long, none_by_counts values cnf.clauses (subst (λ (cs : List ℕ). NoneIsZero cs) walks.counted none));
  none_before = before;
}

-- if no earlier values satisfy the clauses, and some clause has no true literal at the end of the walk, no values on the walk satisfy the clauses
pub none_at_end : (cnf : ClauseList) (values : List Bool) (counts : List ℕ) (marks : List Bool) (start : ℕ) (k place : ℕ) → Walks cnf.clauses values counts marks start → IsFirstZero counts place → values_after cnf k ≡ Some values → NoneBefore cnf k → NoneBefore cnf (k + 1)
none_at_end cnf values counts marks start k place walks none reached before =
    let clause = get_or cnf.clauses place [] in
    let within = place_within cnf.clauses values counts marks start place walks none in
    let found = found_clause cnf.clauses values counts marks start place clause walks none (self_default cnf.clauses place within) in
    none_more cnf values k clause reached found.first before
