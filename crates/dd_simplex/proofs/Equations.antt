-- What a dictionary says about its variables: an equation for each basic one, and the objective. A pivot changes neither the solutions of the
-- equations nor the objective's value at a solution.
use Rattle.std.proofs.Common.{◌≡◌, ◌≢◌, ℕ, ◌<◌, Bool, true, false, ◌&&◌, ⊎_elim, refl, sym, ap, subst, ◌∙◌, arith}
use Rattle.std.proofs.lemmas.Bool.{cases_eq}
use Rattle.std.specs.Bool.{nat_eq}
use Rattle.dd_fraction.specs.{Exact.Exact, Exact.plus, Exact.times, Exact.minus, Exact.inverse, Exact.low, Order.IsPositive}
use Rattle.dd_fraction.specs.lemmas.Laws.{times_comm, times_assoc, times_plus, zero_plus, plus_zero, zero_times, times_zero, times_one, plus_minus, plus_four, plus_cancel, plus_low_right, low_plus, low_times, minus_times}
use Rattle.dd_fraction.specs.lemmas.{Lowest.zero_is, Lowest.one_is, OrderLaws.times_inverse_positive}
use Rattle.dd_simplex.specs.Programs.{fraction_sum, zero_of, one_of}
use Rattle.dd_simplex.specs.Dictionaries.{Dictionary, pivoted, new_bound, less_product}
use Rattle.dd_simplex.specs.Laws.{dictionary_coefficient, price}
use Rattle.dd_simplex.proofs.Totals.{sum_scaled, sum_with, total_low}
use Rattle.dd_values.specs.lemmas.Booleans.{eq_other}

abbrev pub left_side : ℕ → Dictionary → (ℕ → Exact) → ℕ → Exact
left_side n d x v = fraction_sum (λ w. times (dictionary_coefficient d v w) (x w)) n

-- the values x of the variables solve each equation, after its bound is multiplied by s
abbrev pub Holds : ℕ → Dictionary → Exact → (ℕ → Exact) → Type 0
Holds n d s x = (v : ℕ) → v < n → d.is_basic v ≡ true → left_side n d x v ≡ times s (d.bound v)

abbrev pub objective : ℕ → Dictionary → Exact → (ℕ → Exact) → Exact
objective n d s x = plus (times s d.value) (fraction_sum (λ w. times (price d w) (x w)) n)

-- a pivot in which e enters and r leaves: e is nonbasic, r is basic, and the entry of r at e is greater than 0
pub record IsPivot (n : ℕ) (d : Dictionary) (e r : ℕ) : Type 0 where
  pub entering : e < n
  pub leaving : r < n
  pub free : d.is_basic e ≡ false
  pub basic : d.is_basic r ≡ true
  pub positive : IsPositive (d.entry r e)

pub true_false : true ≡ false → ⊥
true_false e = absurd cc

eq_same : (v w : ℕ) → v ≡ w → nat_eq v w ≡ true
eq_same v w h = grind arith

pub apart : (d : Dictionary) (v w : ℕ) → d.is_basic v ≡ true → d.is_basic w ≡ false → v ≢ w
apart d v w p q s = true_false (sym p ∙ (ap d.is_basic s ∙ q))

-- which variables are basic after the pivot
abbrev pub basic_then : Dictionary → ℕ → ℕ → ℕ → Bool
basic_then d e r v = (pivoted d e r).is_basic v

pub then_entering : (d : Dictionary) (e r : ℕ) → basic_then d e r e ≡ true
then_entering d e r = rw (eq_same e e refl) refl

pub then_leaving : (d : Dictionary) (e r : ℕ) → r ≢ e → d.is_basic r ≡ true → basic_then d e r r ≡ false
then_leaving d e r h b = rw (eq_other r e h, eq_same r r refl, b) refl

pub then_other : (d : Dictionary) (e r v : ℕ) → v ≢ e → v ≢ r → basic_then d e r v ≡ d.is_basic v
then_other d e r v h k = rw (eq_other v e h, eq_other v r k) (and_true (d.is_basic v))
  where
    and_true : (b : Bool) → (b && true) ≡ b
    and_true true = refl
    and_true false = refl

-- each coefficient in the new row of e is that in the old row of r, divided by the entry of r at e
pub new_row : (n : ℕ) (d : Dictionary) (e r w : ℕ) → IsPivot n d e r → dictionary_coefficient (pivoted d e r) e w ≡ times (dictionary_coefficient d r w) (inverse (d.entry r e))
new_row n d e r w t = ⊎_elim at_e (λ (h : w ≢ e). ⊎_elim (at_r h) (λ (k : w ≢ r). other h k (d.is_basic w) refl) (cases_eq w r)) (cases_eq w e)
  where
    k : Exact
    k = inverse (d.entry r e)

    at_e : w ≡ e → dictionary_coefficient (pivoted d e r) e w ≡ times (dictionary_coefficient d r w) k
    at_e s =
        let er : e ≢ r = λ (u : e ≡ r). apart d r e t.basic t.free (sym u) in
        subst (λ (u : ℕ). dictionary_coefficient (pivoted d e r) e u ≡ times (dictionary_coefficient d r u) k) (sym s)
        (rw (eq_same e e refl, eq_other e r er, t.free) (sym (times_inverse_positive (d.entry r e) t.positive)))

    at_r : w ≢ e → w ≡ r → dictionary_coefficient (pivoted d e r) e w ≡ times (dictionary_coefficient d r w) k
    at_r h s =
        let re : r ≢ e = apart d r e t.basic t.free in
        subst (λ (u : ℕ). dictionary_coefficient (pivoted d e r) e u ≡ times (dictionary_coefficient d r u) k) (sym s)
        (rw (eq_other r e re, eq_same e e refl, eq_same r r refl, t.basic) refl)

    other : w ≢ e → w ≢ r → (b : Bool) → d.is_basic w ≡ b → dictionary_coefficient (pivoted d e r) e w ≡ times (dictionary_coefficient d r w) k
    other h l true s = rw (eq_other w e h, eq_other w r l, s) (sym (zero_times k))
    other h l false s = rw (eq_other w e h, eq_other w r l, eq_same e e refl, s) refl

bare : (q a : Exact) → minus (times q a) ≡ plus zero_of (times (minus q) a)
bare q a = minus_times q a ∙ (sym (low_times (minus q) a) ∙ sym (zero_plus (times (minus q) a)))

gone : (q : Exact) → zero_of ≡ plus q (times (minus q) one_of)
gone q = sym (ap (plus q) (times_one (minus q)) ∙ (plus_low_right q (minus q) ∙ plus_minus q))

idle : (a q : Exact) → plus a (times q zero_of) ≡ low a
idle a q = ap (plus a) (times_zero q) ∙ plus_zero a

-- each new coefficient in a row that stays is the old one less a multiple of the coefficient in the new row of e
pub row_then : (n : ℕ) (d : Dictionary) (e r v w : ℕ) → IsPivot n d e r → d.is_basic v ≡ true → v ≢ r
    → dictionary_coefficient (pivoted d e r) v w ≡ plus (dictionary_coefficient d v w) (times (minus (d.entry v e)) (dictionary_coefficient (pivoted d e r) e w))
row_then n d e r v w t b vr = ⊎_elim at_v (λ (f : w ≢ v). ⊎_elim (at_e f) (λ (h : w ≢ e). ⊎_elim (at_r f h) (λ (k : w ≢ r). other f h k (d.is_basic w) refl) (cases_eq w r)) (cases_eq w e)) (cases_eq w v)
  where
    q : Exact
    q = d.entry v e

    ve : v ≢ e
    ve = apart d v e b t.free

    at_v : w ≡ v → dictionary_coefficient (pivoted d e r) v w ≡ plus (dictionary_coefficient d v w) (times (minus q) (dictionary_coefficient (pivoted d e r) e w))
    at_v s =
        subst (λ (u : ℕ). dictionary_coefficient (pivoted d e r) v u ≡ plus (dictionary_coefficient d v u) (times (minus q) (dictionary_coefficient (pivoted d e r) e u))) (sym s)
        (rw (eq_same v v refl, eq_other v e ve, eq_other v r vr, b) (sym (idle one_of (minus q) ∙ one_is)))

    at_e : w ≢ v → w ≡ e → dictionary_coefficient (pivoted d e r) v w ≡ plus (dictionary_coefficient d v w) (times (minus q) (dictionary_coefficient (pivoted d e r) e w))
    at_e f s =
        let ev : e ≢ v = λ (u : e ≡ v). ve (sym u) in
        subst (λ (u : ℕ). dictionary_coefficient (pivoted d e r) v u ≡ plus (dictionary_coefficient d v u) (times (minus q) (dictionary_coefficient (pivoted d e r) e u))) (sym s)
        (rw (eq_same e e refl, eq_other e v ev, t.free) (gone q))

    at_r : w ≢ v → w ≢ e → w ≡ r → dictionary_coefficient (pivoted d e r) v w ≡ plus (dictionary_coefficient d v w) (times (minus q) (dictionary_coefficient (pivoted d e r) e w))
    at_r f h s =
        let re : r ≢ e = apart d r e t.basic t.free in
        let rv : r ≢ v = λ (u : r ≡ v). vr (sym u) in
        subst (λ (u : ℕ). dictionary_coefficient (pivoted d e r) v u ≡ plus (dictionary_coefficient d v u) (times (minus q) (dictionary_coefficient (pivoted d e r) e u))) (sym s)
        (rw (eq_other r v rv, eq_other r e re, eq_other v e ve, eq_same e e refl, eq_same r r refl, t.basic) (bare q _))

    other : w ≢ v → w ≢ e → w ≢ r → (c : Bool) → d.is_basic w ≡ c
        → dictionary_coefficient (pivoted d e r) v w ≡ plus (dictionary_coefficient d v w) (times (minus q) (dictionary_coefficient (pivoted d e r) e w))
    other f h l true s = rw (eq_other w v f, eq_other w e h, eq_other w r l, s) (sym (idle zero_of (minus q) ∙ zero_is))
    other f h l false s = rw (eq_other w v f, eq_other w e h, eq_other w r l, eq_other v e ve, eq_same e e refl, s) (ap (plus (d.entry v w)) (minus_times q _))

-- each new price is the old one less a multiple of the coefficient in the new row of e
pub price_then : (n : ℕ) (d : Dictionary) (e r w : ℕ) → IsPivot n d e r
    → price (pivoted d e r) w ≡ plus (price d w) (times (minus (d.cost e)) (dictionary_coefficient (pivoted d e r) e w))
price_then n d e r w t = ⊎_elim at_e (λ (h : w ≢ e). ⊎_elim (at_r h) (λ (k : w ≢ r). other h k (d.is_basic w) refl) (cases_eq w r)) (cases_eq w e)
  where
    q : Exact
    q = d.cost e

    at_e : w ≡ e → price (pivoted d e r) w ≡ plus (price d w) (times (minus q) (dictionary_coefficient (pivoted d e r) e w))
    at_e s =
        subst (λ (u : ℕ). price (pivoted d e r) u ≡ plus (price d u) (times (minus q) (dictionary_coefficient (pivoted d e r) e u))) (sym s)
        (rw (eq_same e e refl, t.free) (gone q))

    at_r : w ≢ e → w ≡ r → price (pivoted d e r) w ≡ plus (price d w) (times (minus q) (dictionary_coefficient (pivoted d e r) e w))
    at_r h s =
        let re : r ≢ e = apart d r e t.basic t.free in
        subst (λ (u : ℕ). price (pivoted d e r) u ≡ plus (price d u) (times (minus q) (dictionary_coefficient (pivoted d e r) e u))) (sym s)
        (rw (eq_other r e re, eq_same e e refl, eq_same r r refl, t.basic) (bare q _))

    other : w ≢ e → w ≢ r → (c : Bool) → d.is_basic w ≡ c → price (pivoted d e r) w ≡ plus (price d w) (times (minus q) (dictionary_coefficient (pivoted d e r) e w))
    other h l true s = rw (eq_other w e h, eq_other w r l, s) (sym (idle zero_of (minus q) ∙ zero_is))
    other h l false s = rw (eq_other w e h, eq_other w r l, eq_same e e refl, s) (ap (plus (d.cost w)) (minus_times q _))

-- ---- a pivot preserves the solutions of the equations, and the value of the objective at each solution
bound_new : (d : Dictionary) (e r : ℕ) → (pivoted d e r).bound e ≡ new_bound d e r
bound_new d e r = rw (eq_same e e refl) refl

bound_then : (d : Dictionary) (e r v : ℕ) → v ≢ e → (pivoted d e r).bound v ≡ less_product (d.bound v) (d.entry v e) (new_bound d e r)
bound_then d e r v h = rw (eq_other v e h) refl

times_swap : (a b c : Exact) → times a (times b c) ≡ times b (times a c)
times_swap a b c = sym (times_assoc a b c) ∙ (ap (λ (t : Exact). times t c) (times_comm a b) ∙ times_assoc b a c)

spread : (s b q c : Exact) → times s (less_product b q c) ≡ plus (times s b) (times (minus q) (times s c))
spread s b q c = times_plus s b (minus (times q c)) ∙ ap (plus (times s b)) (ap (times s) (minus_times q c) ∙ times_swap s (minus q) c)

new_side : (n : ℕ) (d : Dictionary) (e r : ℕ) (x : ℕ → Exact) → IsPivot n d e r → left_side n (pivoted d e r) x e ≡ times (left_side n d x r) (inverse (d.entry r e))
new_side n d e r x t = sum_scaled (dictionary_coefficient (pivoted d e r) e) (dictionary_coefficient d r) x (inverse (d.entry r e)) n (λ w p. new_row n d e r w t)

side_then : (n : ℕ) (d : Dictionary) (e r v : ℕ) (x : ℕ → Exact) → IsPivot n d e r → d.is_basic v ≡ true → v ≢ r
    → left_side n (pivoted d e r) x v ≡ plus (left_side n d x v) (times (minus (d.entry v e)) (left_side n (pivoted d e r) x e))
side_then n d e r v x t b h =
    sum_with (dictionary_coefficient (pivoted d e r) v) (dictionary_coefficient d v) (dictionary_coefficient (pivoted d e r) e) x (minus (d.entry v e)) n (λ w p. row_then n d e r v w t b h)

new_holds : (n : ℕ) (d : Dictionary) (e r : ℕ) (s : Exact) (x : ℕ → Exact) → IsPivot n d e r → Holds n d s x → left_side n (pivoted d e r) x e ≡ times s (new_bound d e r)
new_holds n d e r s x t h =
    new_side n d e r x t ∙ (ap (λ (y : Exact). times y (inverse (d.entry r e))) (h r t.leaving t.basic) ∙ times_assoc s (d.bound r) (inverse (d.entry r e)))

pub pivot_forth : (n : ℕ) (d : Dictionary) (e r : ℕ) (s : Exact) (x : ℕ → Exact) → IsPivot n d e r → Holds n d s x → Holds n (pivoted d e r) s x
pivot_forth n d e r s x t h v p b = ⊎_elim
    (λ (u : v ≡ e). subst (λ (w : ℕ). left_side n (pivoted d e r) x w ≡ times s ((pivoted d e r).bound w)) (sym u)
    (new_holds n d e r s x t h ∙ ap (times s) (sym (bound_new d e r))))
    (λ (f : v ≢ e).
    let vr : v ≢ r = λ (u : v ≡ r). true_false (sym b ∙ (ap (basic_then d e r) u ∙ then_leaving d e r (apart d r e t.basic t.free) t.basic)) in
    let old : d.is_basic v ≡ true = sym (then_other d e r v f vr) ∙ b in
    side_then n d e r v x t old vr
    ∙ ((λ i. plus (h v p old i) (times (minus (d.entry v e)) (new_holds n d e r s x t h i)))
    ∙ (sym (spread s (d.bound v) (d.entry v e) (new_bound d e r)) ∙ ap (times s) (sym (bound_then d e r v f)))))
    (cases_eq v e)

pub pivot_back : (n : ℕ) (d : Dictionary) (e r : ℕ) (s : Exact) (x : ℕ → Exact) → IsPivot n d e r → Holds n (pivoted d e r) s x → Holds n d s x
pivot_back n d e r s x t h v p b = ⊎_elim
    (λ (u : v ≡ r). subst (λ (w : ℕ). left_side n d x w ≡ times s (d.bound w)) (sym u) leaving)
    (λ (f : v ≢ r).
    let ve : v ≢ e = apart d v e b t.free in
    let q = d.entry v e in
    let y = times (minus q) (times s (new_bound d e r)) in
    let at : left_side n (pivoted d e r) x v ≡ plus (times s (d.bound v)) y =
    h v p (then_other d e r v ve f ∙ b) ∙ (ap (times s) (bound_then d e r v ve) ∙ spread s (d.bound v) q (new_bound d e r)) in
    let both : plus (left_side n d x v) y ≡ plus (times s (d.bound v)) y =
    ap (λ (t : Exact). plus (left_side n d x v) (times (minus q) t)) (sym new) ∙ (sym (side_then n d e r v x t b f) ∙ at) in
    sym (total_low _ n) ∙ (plus_cancel (left_side n d x v) (times s (d.bound v)) y both ∙ low_times s (d.bound v)))
    (cases_eq v r)
  where
    k : Exact
    k = inverse (d.entry r e)

    new : left_side n (pivoted d e r) x e ≡ times s (new_bound d e r)
    new = h e t.entering (then_entering d e r) ∙ ap (times s) (bound_new d e r)

    undo : (y : Exact) → times (times y k) (d.entry r e) ≡ low y
    undo y = times_assoc y k (d.entry r e) ∙ (ap (times y) (times_comm k (d.entry r e) ∙ times_inverse_positive (d.entry r e) t.positive) ∙ times_one y)

    leaving : left_side n d x r ≡ times s (d.bound r)
    leaving =
        sym (total_low _ n)
        ∙ (sym (undo (left_side n d x r))
        ∙ (ap (λ (y : Exact). times y (d.entry r e)) (sym (new_side n d e r x t) ∙ (new ∙ sym (times_assoc s (d.bound r) k)))
        ∙ (undo (times s (d.bound r)) ∙ low_times s (d.bound r))))

pub pivot_objective : (n : ℕ) (d : Dictionary) (e r : ℕ) (s : Exact) (x : ℕ → Exact) → IsPivot n d e r → Holds n d s x → objective n (pivoted d e r) s x ≡ objective n d s x
pivot_objective n d e r s x t h =
    let c = d.cost e in
    let b = new_bound d e r in
    let old = fraction_sum (λ w. times (price d w) (x w)) n in
    let prices : fraction_sum (λ w. times (price (pivoted d e r) w) (x w)) n ≡ plus old (times (minus c) (times s b)) =
    sum_with (price (pivoted d e r)) (price d) (dictionary_coefficient (pivoted d e r) e) x (minus c) n (λ w p. price_then n d e r w t)
    ∙ ap (λ (y : Exact). plus old (times (minus c) y)) (new_holds n d e r s x t h) in
    let none : plus (times s (times c b)) (times (minus c) (times s b)) ≡ zero_of =
    (λ i. plus (times_swap s c b i) (sym (minus_times c (times s b)) i)) ∙ plus_minus (times c (times s b)) in
    (λ i. plus (times_plus s d.value (times c b) i) (prices i))
    ∙ (plus_four (times s d.value) (times s (times c b)) old (times (minus c) (times s b))
    ∙ (ap (plus (plus (times s d.value) old)) none
    ∙ (plus_zero (plus (times s d.value) old) ∙ low_plus (times s d.value) old)))
