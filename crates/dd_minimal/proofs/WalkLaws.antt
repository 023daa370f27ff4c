-- A walk along the strides of the cells that a pattern leaves out, and the fillings that agree with the pattern.
use Rattle.std.proofs.Common.{◌≡◌, ◌<◌, ◌+◌, ◌-◌, ◌*◌, ◌^◌, ℕ, suc, Bool, true, false, cond, Option, Some, None, List, [], ◌∷◌, length, get_or, nat_eq, refl, sym, ◌∙◌, ap, subst, arith}
use Rattle.std.proofs.Math.Nat.{pow-zero, pow-succ'}
use Rattle.std.proofs.lemmas.Bool.{and_parts, and_from, false≢true, eq-eqb, eqb-true}
use Rattle.std.proofs.lemmas.{Nat.mul-add-lt, List.Elements.All-nil, List.Elements.All-head, List.Elements.All-tail}
use Rattle.std.specs.{Prelude.IfSome, List.range_with_len}
use Rattle.dd_formula.specs.LocalRule.{LocalRule, IsRule, cells_at}
use Rattle.dd_forbidden.specs.Breaking.{are_allowed, is_true_at_origin}
use Rattle.dd_minimal.specs.{declared.outcome.Outcome.Outcome, declared.outcome.Outcome.TheVariants.Barred, Patterns.agrees}
use Rattle.dd_minimal.specs.Minimal.{all_break}
use Rattle.dd_minimal.specs.finding.Numbers.{IsWord, number, open_strides, least_number, reach, KeepsBelow}
use Rattle.dd_minimal.specs.finding.Outcomes.{outcome, outcomes, of_truth, does_hold}
use Rattle.dd_minimal.specs.finding.Walks.{none_holds, is_enough}
use Rattle.dd_minimal.proofs.Lists.{fails, range_within}
use Rattle.dd_minimal.proofs.AllWords.{word_rest, word_first, word_cons, allowed_word}
use Rattle.dd_minimal.proofs.{ListLaws.breaking_all, ListLaws.all_break_from, NumberLaws.number_cons, NumberLaws.table_at}
use Rattle.dd_values.specs.lemmas.{Booleans.not_true, Booleans.not_false, Lists.passes, Lists.range_has}

-- from the index b on, the table has the entry f ss for each word ss, in the order of the words
abbrev pub IsAt : List Outcome → ℕ → ℕ → ℕ → (List ℕ → Outcome) → Type 0
IsAt table b m n f = (ss : List ℕ) → IsWord m n ss → get_or table (b + number m ss) Barred ≡ f ss

pub turned : (x y z : ℕ) → (x + y) + z ≡ (x + z) + y
turned x y z = omega arith

pub joined : (x y z : ℕ) → x + (y + z) ≡ (x + y) + z
joined x y z = omega arith

-- the part of the table for the words whose first symbol is s
pub at_behind : (table : List Outcome) (b m n : ℕ) (f : List ℕ → Outcome) (s : ℕ) → s < m → IsAt table b m (suc n) f → IsAt table (b + s * m ^ n) m n (λ ss. f (s ∷ ss))
at_behind table b m n f s below at ss w =
    ap (λ i. get_or table i Barred) (sym (joined b (s * m ^ n) (number m ss)) ∙ ap (λ k. b + k) (sym (number_cons m n s ss w.as_many)))
    ∙ at (s ∷ ss) (word_cons m n s ss below w)

at_none : (table : List Outcome) (b m : ℕ) (f : List ℕ → Outcome) → IsAt table b m 0 f → get_or table (b + 0) Barred ≡ f []
at_none table b m f at = at [] (record { as_many = refl; below = All-nil (λ s. s < m) })

pub none_holds_all : (table : List Outcome) (m : ℕ) (p : List (Option ℕ)) (b : ℕ) (f : List ℕ → Outcome) → IsAt table b m (length p) f →
    none_holds m (open_strides m p) table (b + least_number m p) ≡ true → (ss : List ℕ) → IsWord m (length p) ss → agrees p ss ≡ true → does_hold (f ss) ≡ false
none_holds_all table m [] b f at h [] w ag = ap does_hold (sym (at_none table b m f at)) ∙ not_true (does_hold (get_or table (b + 0) Barred)) h
none_holds_all table m [] b f at h (s ∷ ss) w ag = absurd (false≢true ag)
none_holds_all table m (p ∷ ps) b f at h [] w ag = absurd (false≢true ag)
none_holds_all table m (None ∷ ps) b f at h (s ∷ ss) w ag =
    let n = length ps in
    let small = word_first m (suc n) s ss w in
    let here = passes (λ t. none_holds m (open_strides m ps) table (b + least_number m ps + t * m ^ n)) (range_with_len 0 m) s h (range_has m s small) in
    none_holds_all table m ps (b + s * m ^ n) (λ qs. f (s ∷ qs)) (at_behind table b m n f s small at)
    (ap (none_holds m (open_strides m ps) table) (turned b (s * m ^ n) (least_number m ps)) ∙ here) ss (word_rest m n s ss w) ag
none_holds_all table m (Some t ∷ ps) b f at h (s ∷ ss) w ag =
    let n = length ps in
    let both = and_parts (nat_eq t s) (agrees ps ss) ag in
    let small = word_first m (suc n) s ss w in
    let same = eqb-true t s both.0 in
    none_holds_all table m ps (b + s * m ^ n) (λ qs. f (s ∷ qs)) (at_behind table b m n f s small at)
    (ap (none_holds m (open_strides m ps) table) (ap (λ k. b + k * m ^ n + least_number m ps) (sym same) ∙ sym (joined b (t * m ^ n) (least_number m ps))) ∙ h)
    ss (word_rest m n s ss w) both.1

-- some filling agrees with the pattern, and its outcome is `Holds`
pub record IsHeld (m : ℕ) (f : List ℕ → Outcome) (p : List (Option ℕ)) : Type 0 where
  pub filling : List ℕ
  pub word : IsWord m (length p) filling
  pub agreeing : agrees p filling ≡ true
  pub holds : does_hold (f filling) ≡ true

pub some_holds : (table : List Outcome) (m : ℕ) (p : List (Option ℕ)) (b : ℕ) (f : List ℕ → Outcome) → KeepsBelow m p → IsAt table b m (length p) f →
    none_holds m (open_strides m p) table (b + least_number m p) ≡ false → IsHeld m f p
some_holds table m [] b f keeps at h =
    record {
      filling = [];
      word = record { as_many = refl; below = All-nil (λ s. s < m) };
      agreeing = refl;
      holds = ap does_hold (sym (at_none table b m f at)) ∙ not_false (does_hold (get_or table (b + 0) Barred)) h;
    }
some_holds table m (None ∷ ps) b f keeps at h =
    let n = length ps in
    let w = fails (λ t. none_holds m (open_strides m ps) table (b + least_number m ps + t * m ^ n)) (range_with_len 0 m) h in
    let within = range_within 0 m w.at w.listed in
    let small : w.at < m = (let below = within.below in omega (arith, below)) in
    let rest = some_holds table m ps (b + w.at * m ^ n) (λ qs. f (w.at ∷ qs)) (All-tail (λ p. IfSome p (λ s. s < m)) None ps keeps)
    (at_behind table b m n f w.at small at) (ap (none_holds m (open_strides m ps) table) (turned b (w.at * m ^ n) (least_number m ps)) ∙ w.is) in
    record { filling = w.at ∷ rest.filling; word = word_cons m n w.at rest.filling small rest.word; agreeing = rest.agreeing; holds = rest.holds }
some_holds table m (Some t ∷ ps) b f keeps at h =
    let n = length ps in
    let small = All-head (λ p. IfSome p (λ s. s < m)) (Some t) ps keeps in
    let rest = some_holds table m ps (b + t * m ^ n) (λ qs. f (t ∷ qs)) (All-tail (λ p. IfSome p (λ s. s < m)) (Some t) ps keeps)
    (at_behind table b m n f t small at) (ap (none_holds m (open_strides m ps) table) (sym (joined b (t * m ^ n) (least_number m ps))) ∙ h) in
    record {
      filling = t ∷ rest.filling;
      word = word_cons m n t rest.filling small rest.word;
      agreeing = and_from (nat_eq t t) (agrees ps rest.filling) (eq-eqb t t refl) rest.agreeing;
      holds = rest.holds;
    }

-- ---- with a rule's table of outcomes, a pattern whose symbols are in the alphabet is enough exactly when all fillings with allowed symbols that agree
-- with it break the rule

false_of : (al t : Bool) → al ≡ true → does_hold (cond al (of_truth t) Barred) ≡ false → t ≡ false
false_of true true is h = absurd (false≢true (sym h))
false_of true false is h = refl
false_of false t is h = absurd (false≢true is)

true_of : (al t : Bool) → does_hold (cond al (of_truth t) Barred) ≡ true → (al ≡ true) × (t ≡ true)
true_of true true h = (refl, refl)
true_of true false h = absurd (false≢true h)
true_of false t h = absurd (false≢true h)

not_both : (b : Bool) → (b ≡ true → ⊥) → b ≡ false
not_both true h = absurd (h refl)
not_both false h = refl

at_all : (r : LocalRule) (a n : ℕ) → n ≡ length (cells_at r a) → IsAt (outcomes r a) 0 r.symbols n (outcome r a)
at_all r a n long ss w =
    ap (λ i. get_or (outcomes r a) i Barred) (let none : 0 + number r.symbols ss ≡ number r.symbols ss = omega arith in none)
    ∙ table_at (outcome r a) r.symbols (length (cells_at r a)) ss Barred (subst (λ k. IsWord r.symbols k ss) long w)

enough_at : (r : LocalRule) → IsRule r → (a : ℕ) (p : List (Option ℕ)) (b : Bool) → length p ≡ length (cells_at r a) → KeepsBelow r.symbols p →
    none_holds r.symbols (open_strides r.symbols p) (outcomes r a) (0 + least_number r.symbols p) ≡ b → b ≡ all_break r a p
enough_at r ok a p true long keeps is =
    sym (all_break_from r a p (λ ss al ag. false_of (are_allowed r (cells_at r a) ss) (is_true_at_origin r a ss) al
    (none_holds_all (outcomes r a) r.symbols p 0 (outcome r a) (at_all r a (length p) long) is ss
    (subst (λ k. IsWord r.symbols k ss) (sym long) (allowed_word r ok (cells_at r a) ss al)) ag)))
enough_at r ok a p false long keeps is =
    let w = some_holds (outcomes r a) r.symbols p 0 (outcome r a) keeps (at_all r a (length p) long) is in
    let both = true_of (are_allowed r (cells_at r a) w.filling) (is_true_at_origin r a w.filling) w.holds in
    sym (not_both (all_break r a p) (λ h. false≢true (sym (breaking_all r ok a p w.filling h both.0 w.agreeing) ∙ both.1)))

pub enough_is : (r : LocalRule) → IsRule r → (a : ℕ) (p : List (Option ℕ)) → length p ≡ length (cells_at r a) → KeepsBelow r.symbols p → is_enough r.symbols (outcomes r a) p ≡ all_break r a p
enough_is r ok a p long keeps =
    ap (none_holds r.symbols (open_strides r.symbols p) (outcomes r a)) (let none : least_number r.symbols p ≡ 0 + least_number r.symbols p = omega arith in none)
    ∙ enough_at r ok a p (none_holds r.symbols (open_strides r.symbols p) (outcomes r a) (0 + least_number r.symbols p)) long keeps refl

-- ---- how far the walk goes

pub reach_below : (m : ℕ) (p : List (Option ℕ)) → 0 < m → KeepsBelow m p → least_number m p + reach m (open_strides m p) < m ^ length p
reach_below m [] some keeps = let one = pow-zero m in omega (arith, one)
reach_below m (None ∷ ps) some keeps =
    let rest = reach_below m ps some (All-tail (λ p. IfSome p (λ s. s < m)) None ps keeps) in
    let power = pow-succ' m (length ps) in
    let row = mul-add-lt (m - 1) (m ^ length ps) (least_number m ps + reach m (open_strides m ps)) m (omega (arith, some)) rest in
    omega (arith, power, row)
reach_below m (Some s ∷ ps) some keeps =
    let rest = reach_below m ps some (All-tail (λ p. IfSome p (λ t. t < m)) (Some s) ps keeps) in
    let power = pow-succ' m (length ps) in
    let row = mul-add-lt s (m ^ length ps) (least_number m ps + reach m (open_strides m ps)) m (All-head (λ p. IfSome p (λ t. t < m)) (Some s) ps keeps) rest in
    omega (arith, power, row)
