-- The pivot of a table, number by number. Each new cell, and each test whether a number fits, is the same as in the pivot of the dictionary that
-- the table stands for.
use Rattle.std.proofs.Common.{◌≡◌, ◌≢◌, ℕ, ◌+◌, ◌<◌, List, length, take, drop, Bool, true, false, not, ◌&&◌, ◌||◌, cond, Some, None, ⊎_elim, refl, sym, ap, subst, ◌∙◌, arith}
use Rattle.std.proofs.lemmas.{Bool.cases_eq, List.length-set}
use Rattle.std.specs.{Bool.nat_eq, List.slice_set, List.list_all}
use Rattle.dd_fraction.specs.Exact.{Exact, plus, times, minus, inverse, low}
use Rattle.dd_fraction.specs.Checked.{IsFraction, does_product_fit, does_sum_fit}
use Rattle.dd_fraction.specs.lemmas.Laws.{zero_plus, low_times, minus_times, IsLowest-times}
use Rattle.dd_fraction.specs.lemmas.FractionFacts.{IsFraction-checked_product, IsFraction-checked_sum, IsFraction-minus}
use Rattle.dd_simplex.specs.Programs.{fraction_at, zero_of, one_of}
use Rattle.dd_simplex.specs.Dictionaries.{Dictionary, new_bound, new_entry, less_product}
use Rattle.dd_simplex.specs.Runs.{all_below, does_quotient_fit, does_less_fit, does_row_fit, do_coefficients_fit, do_others_fit, does_objective_fit}
use Rattle.dd_simplex.specs.table.Lines.{Line, Table, line_at, other_at, less, do_all_less_fit, solved_line, does_solved_fit, does_changed_fit, does_table_fit, does_objective_line_fit as does_table_objective_fit}
use Rattle.dd_simplex.specs.table.Standing.{IsTable, StandsFor}
use Rattle.dd_simplex.proofs.{CellSteps.emptied_fits, CellSteps.solved_size, Equations.true_false, Equations.apart}
use Rattle.dd_simplex.proofs.Firsts.{and_left, and_right, all_at, all_true}
use Rattle.dd_simplex.proofs.Places.{less_at, less_fits, less_fits_at, list_true, beside_at, beside_true, solved_at, set_here, set_else}
use Rattle.dd_simplex.proofs.Totals.{eq_same}
use Rattle.dd_values.specs.lemmas.{Booleans.same_bool, Booleans.and_both, Booleans.eq_other, Lists.list_at}

pub product_fraction : (a b : Exact) → 0 < a.den → 0 < b.den → does_product_fit a b ≡ true → IsFraction (times a b)
product_fraction a b p q f = IsFraction-checked_product a b (times a b) p q (sym (ap (λ (t : Bool). cond t (Some (times a b)) None) f))

pub sum_fraction : (a b : Exact) → 0 < a.den → 0 < b.den → does_sum_fit a b ≡ true → IsFraction (plus a b)
sum_fraction a b p q f = IsFraction-checked_sum a b (plus a b) p q (sym (ap (λ (t : Bool). cond t (Some (plus a b)) None) f))

pub less_fraction : (a q b : Exact) → 0 < a.den → 0 < q.den → 0 < b.den → does_less_fit a q b ≡ true → IsFraction (less_product a q b)
less_fraction a q b p o r f =
    let one = product_fraction q b o r (and_left (does_product_fit q b) (does_sum_fit a (minus (times q b))) f) in
    let two = IsFraction-minus (times q b) one in
    sum_fraction a (minus (times q b)) p two.above (and_right (does_product_fit q b) (does_sum_fit a (minus (times q b))) f)

-- the numbers of 0 - q · b fit if those of q · b do
emptied_less : (q b : Exact) → 0 < q.den → 0 < b.den → does_product_fit q b ≡ true → does_less_fit zero_of q b ≡ true
emptied_less q b p r f =
    let g = product_fraction q b p r f in
    and_both (does_product_fit q b) (does_sum_fit zero_of (minus (times q b))) f (emptied_fits (times q b) g.above g.bounded g.below)

pub emptied_is : (q b : Exact) → less_product zero_of q b ≡ minus (times q b)
emptied_is q b = zero_plus (minus (times q b)) ∙ (ap low (minus_times q b) ∙ (low_times (minus q) b ∙ sym (minus_times q b)))

module _ (n : ℕ) (t : Table) (d : Dictionary) (k : IsTable t) (s : StandsFor n t d) (e r : ℕ) (inside : e < length t.others) (line : r < length t.lines) where
  abbrev pub E : ℕ
  E = other_at t.others e

  abbrev pub R : ℕ
  R = (line_at t.lines r).basic

  abbrev pub pivot : Line
  pivot = solved_line E e (line_at t.lines r)

  pub pivot_length : length pivot.cells ≡ length t.others
  pivot_length = solved_size (other_at t.others e) e (line_at t.lines r) (length t.others) (k.cells r line)

  pub cell_is : d.entry R E ≡ fraction_at (line_at t.lines r).cells e
  cell_is = s.entries r e line inside

  pub other_apart : (j : ℕ) → j < length t.others → other_at t.others j ≢ R
  other_apart j p q = apart d R (other_at t.others j) (s.basic_is r line) (s.other_is j p) (sym q)

  pub columns_apart : (j : ℕ) → j < length t.others → j ≢ e → other_at t.others j ≢ E
  columns_apart j p h q = h (sym (s.other_column j p) ∙ (ap s.column q ∙ s.other_column e inside))

  -- ---- the solved line
  pub pivot_here : fraction_at pivot.cells e ≡ new_entry d E R R
  pivot_here =
      solved_at E e e (line_at t.lines r) (let z = k.cells r line in omega (arith, z, inside))
      ∙ (ap (λ (a : Exact). times a (inverse (fraction_at (line_at t.lines r).cells e))) (set_here (line_at t.lines r).cells e one_of (let z = k.cells r line in omega (arith, z, inside)))
      ∙ rw (eq_same R) (ap (λ (a : Exact). times one_of (inverse a)) (sym cell_is)))

  pub pivot_else : (j : ℕ) → j < length t.others → j ≢ e → fraction_at pivot.cells j ≡ new_entry d E R (other_at t.others j)
  pivot_else j p h =
      solved_at E e j (line_at t.lines r) (let z = k.cells r line in omega (arith, z, p))
      ∙ (ap (λ (a : Exact). times a (inverse (fraction_at (line_at t.lines r).cells e))) (set_else (line_at t.lines r).cells e j one_of h)
      ∙ rw (eq_other (other_at t.others j) R (other_apart j p)) (sym (λ z. times (s.entries r j line p z) (inverse (cell_is z)))))

  pub pivot_bound : pivot.bound ≡ new_bound d E R
  pivot_bound = sym (λ z. times (s.bounds r line z) (inverse (cell_is z)))

  pub pivot_cell_above : (j : ℕ) → j < length t.others → 0 < (fraction_at pivot.cells j).den
  pivot_cell_above j p =
      let at = solved_at E e j (line_at t.lines r) (let z = k.cells r line in omega (arith, z, p)) in
      subst (λ (a : Exact). 0 < a.den) (sym at)
      (let l = IsLowest-times (fraction_at (slice_set (line_at t.lines r).cells e one_of) j) (inverse (fraction_at (line_at t.lines r).cells e)) in l.positive)

  -- ---- the coefficients `us`, with 0 at the place e, less q times the cells of the solved line
  emptied_size : (us : List Exact) → length us ≡ length t.others → length (slice_set us e zero_of) ≡ length pivot.cells
  emptied_size us h = length-set us e zero_of ∙ (h ∙ sym pivot_length)

  in_emptied : (us : List Exact) (j : ℕ) → length us ≡ length t.others → j < length t.others → j < length (slice_set us e zero_of)
  in_emptied us j h p = let z = length-set us e zero_of in omega (arith, z, h, p)

  pub less_here : (q : Exact) (us : List Exact) → length us ≡ length t.others
      → fraction_at (less q (slice_set us e zero_of) pivot.cells) e ≡ minus (times q (new_entry d E R R))
  less_here q us h =
      less_at q (slice_set us e zero_of) pivot.cells e (emptied_size us h) (in_emptied us e h inside)
      ∙ ((λ z. less_product (set_here us e zero_of (omega (arith, h, inside)) z) q (pivot_here z)) ∙ emptied_is q (new_entry d E R R))

  pub less_else : (q : Exact) (us : List Exact) (j : ℕ) → length us ≡ length t.others → j < length t.others → j ≢ e
      → fraction_at (less q (slice_set us e zero_of) pivot.cells) j ≡ less_product (fraction_at us j) q (new_entry d E R (other_at t.others j))
  less_else q us j h p o =
      less_at q (slice_set us e zero_of) pivot.cells j (emptied_size us h) (in_emptied us j h p)
      ∙ (λ z. less_product (set_else us e j zero_of o z) q (pivot_else j p o z))

  pub coefficients_stand : (q : Exact) (us : List Exact) (a : ℕ → Exact) → length us ≡ length t.others → 0 < q.den
      → ((j : ℕ) → j < length t.others → a (other_at t.others j) ≡ fraction_at us j)
      → do_all_less_fit q (slice_set us e zero_of) pivot.cells ≡ do_coefficients_fit n d E R q a
  coefficients_stand q us a h o is = same_bool _ _ there back
    where
      there : do_all_less_fit q (slice_set us e zero_of) pivot.cells ≡ true → do_coefficients_fit n d E R q a ≡ true
      there f = all_true _ n (λ w p. by w p (d.is_basic w) refl)
        where
          at : (j : ℕ) → j < length t.others → does_less_fit (fraction_at (slice_set us e zero_of) j) q (fraction_at pivot.cells j) ≡ true
          at j p = less_fits_at q (slice_set us e zero_of) pivot.cells j (emptied_size us h) f (in_emptied us j h p)

          place : (w j : ℕ) → j < length t.others → other_at t.others j ≡ w
              → cond (nat_eq w E) (does_product_fit q (new_entry d E R R)) (does_less_fit (a w) q (new_entry d E R w)) ≡ true
          place w j p u = ⊎_elim
              (λ (v : j ≡ e).
              rw (ap (λ (x : ℕ). nat_eq x E) (sym u ∙ ap (other_at t.others) v) ∙ eq_same E)
              (ap (does_product_fit q) (sym pivot_here) ∙ and_left (does_product_fit q (fraction_at pivot.cells e)) (does_sum_fit (fraction_at (slice_set us e zero_of) e) (minus (times q (fraction_at pivot.cells e)))) (at e inside)))
              (λ (v : j ≢ e).
              rw (ap (λ (x : ℕ). nat_eq x E) (sym u) ∙ eq_other (other_at t.others j) E (columns_apart j p v))
              (subst (λ (x : ℕ). does_less_fit (a x) q (new_entry d E R x) ≡ true) u
              ((λ z. does_less_fit ((is j p ∙ sym (set_else us e j zero_of v)) z) q (sym (pivot_else j p v) z)) ∙ at j p)))
              (cases_eq j e)

          by : (w : ℕ) → w < n → (b : Bool) → d.is_basic w ≡ b → (d.is_basic w || cond (nat_eq w E) (does_product_fit q (new_entry d E R R)) (does_less_fit (a w) q (new_entry d E R w))) ≡ true
          by w p true u = rw u refl
          by w p false u = rw u (place w (s.column w) (s.column_in w p u) (s.column_is w p u))

      back : do_coefficients_fit n d E R q a ≡ true → do_all_less_fit q (slice_set us e zero_of) pivot.cells ≡ true
      back f = less_fits q (slice_set us e zero_of) pivot.cells (emptied_size us h) (λ j p. at j (let z = length-set us e zero_of in omega (arith, z, h, p)))
        where
          test : (j : ℕ) → j < length t.others → cond (nat_eq (other_at t.others j) E) (does_product_fit q (new_entry d E R R)) (does_less_fit (a (other_at t.others j)) q (new_entry d E R (other_at t.others j))) ≡ true
          test j p =
              ap (λ (b : Bool). b || cond (nat_eq (other_at t.others j) E) (does_product_fit q (new_entry d E R R)) (does_less_fit (a (other_at t.others j)) q (new_entry d E R (other_at t.others j)))) (sym (s.other_is j p))
              ∙ all_at (λ w. d.is_basic w || cond (nat_eq w E) (does_product_fit q (new_entry d E R R)) (does_less_fit (a w) q (new_entry d E R w))) n (other_at t.others j) f (s.other_in j p)

          at_e : does_less_fit (fraction_at (slice_set us e zero_of) e) q (fraction_at pivot.cells e) ≡ true
          at_e =
              ap (λ (x : Exact). does_less_fit x q (fraction_at pivot.cells e)) (set_here us e zero_of (omega (arith, h, inside)))
              ∙ emptied_less q (fraction_at pivot.cells e) o (pivot_cell_above e inside)
              (ap (does_product_fit q) pivot_here ∙ (ap (λ (b : Bool). cond b (does_product_fit q (new_entry d E R R)) (does_less_fit (a E) q (new_entry d E R E))) (sym (eq_same E)) ∙ test e inside))

          at : (j : ℕ) → j < length t.others → does_less_fit (fraction_at (slice_set us e zero_of) j) q (fraction_at pivot.cells j) ≡ true
          at j p = ⊎_elim
              (λ (v : j ≡ e). subst (λ (x : ℕ). does_less_fit (fraction_at (slice_set us e zero_of) x) q (fraction_at pivot.cells x) ≡ true) (sym v) at_e)
              (λ (v : j ≢ e).
              (λ z. does_less_fit ((set_else us e j zero_of v ∙ sym (is j p)) z) q (pivot_else j p v z))
              ∙ (ap (λ (b : Bool). cond b (does_product_fit q (new_entry d E R R)) (does_less_fit (a (other_at t.others j)) q (new_entry d E R (other_at t.others j)))) (sym (eq_other (other_at t.others j) E (columns_apart j p v))) ∙ test j p))
              (cases_eq j e)

  -- ---- the row of the variable that leaves
  pub row_stands : does_solved_fit e (line_at t.lines r) ≡ does_row_fit n d E R
  row_stands = same_bool _ _ there back
    where
      c : Exact
      c = fraction_at (line_at t.lines r).cells e

      first : does_product_fit (line_at t.lines r).bound (inverse c) ≡ does_quotient_fit (d.bound R) (d.entry R E)
      first = sym (λ z. does_product_fit (s.bounds r line z) (inverse (cell_is z)))

      -- the number at each place before the division
      divided : (j : ℕ) → j < length t.others → fraction_at (slice_set (line_at t.lines r).cells e one_of) j ≡ cond (nat_eq (other_at t.others j) E) one_of (d.entry R (other_at t.others j))
      divided j p = ⊎_elim
          (λ (v : j ≡ e).
          subst (λ (x : ℕ). fraction_at (slice_set (line_at t.lines r).cells e one_of) x ≡ cond (nat_eq (other_at t.others x) E) one_of (d.entry R (other_at t.others x))) (sym v)
          (rw (eq_same E) (set_here (line_at t.lines r).cells e one_of (let z = k.cells r line in omega (arith, z, inside)))))
          (λ (v : j ≢ e). rw (eq_other (other_at t.others j) E (columns_apart j p v)) (set_else (line_at t.lines r).cells e j one_of v ∙ sym (s.entries r j line p)))
          (cases_eq j e)

      there : does_solved_fit e (line_at t.lines r) ≡ true → does_row_fit n d E R ≡ true
      there f = and_both _ _ (sym first ∙ and_left _ (list_all (λ a. does_product_fit a (inverse c)) (slice_set (line_at t.lines r).cells e one_of)) f) (all_true _ n (λ w p. by w p (d.is_basic w) refl))
        where
          at : (j : ℕ) → j < length t.others → does_product_fit (fraction_at (slice_set (line_at t.lines r).cells e one_of) j) (inverse c) ≡ true
          at j p =
              list_at (λ a. does_product_fit a (inverse c)) (slice_set (line_at t.lines r).cells e one_of) j zero_of
              (and_right (does_product_fit (line_at t.lines r).bound (inverse c)) _ f) (let z = length-set (line_at t.lines r).cells e one_of in let y = k.cells r line in omega (arith, z, y, p))

          place : (w j : ℕ) → j < length t.others → other_at t.others j ≡ w → does_quotient_fit (cond (nat_eq w E) one_of (d.entry R w)) (d.entry R E) ≡ true
          place w j p u =
              subst (λ (x : ℕ). does_quotient_fit (cond (nat_eq x E) one_of (d.entry R x)) (d.entry R E) ≡ true) u
              ((λ z. does_quotient_fit (sym (divided j p) z) (cell_is z)) ∙ at j p)

          by : (w : ℕ) → w < n → (b : Bool) → d.is_basic w ≡ b → (d.is_basic w || does_quotient_fit (cond (nat_eq w E) one_of (d.entry R w)) (d.entry R E)) ≡ true
          by w p true u = rw u refl
          by w p false u = rw u (place w (s.column w) (s.column_in w p u) (s.column_is w p u))

      back : does_row_fit n d E R ≡ true → does_solved_fit e (line_at t.lines r) ≡ true
      back f = and_both _ _ (first ∙ and_left _ rest f) (list_true (λ a. does_product_fit a (inverse c)) (slice_set (line_at t.lines r).cells e one_of) zero_of (λ j p. at j (let z = length-set (line_at t.lines r).cells e one_of in let y = k.cells r line in omega (arith, z, y, p))))
        where
          rest : Bool
          rest = all_below (λ w. d.is_basic w || does_quotient_fit (cond (nat_eq w E) one_of (d.entry R w)) (d.entry R E)) n

          at : (j : ℕ) → j < length t.others → does_product_fit (fraction_at (slice_set (line_at t.lines r).cells e one_of) j) (inverse c) ≡ true
          at j p =
              (λ z. does_quotient_fit (divided j p z) (sym cell_is z))
              ∙ (ap (λ (b : Bool). b || does_quotient_fit (cond (nat_eq (other_at t.others j) E) one_of (d.entry R (other_at t.others j))) (d.entry R E)) (sym (s.other_is j p))
              ∙ all_at (λ w. d.is_basic w || does_quotient_fit (cond (nat_eq w E) one_of (d.entry R w)) (d.entry R E)) n (other_at t.others j)
              (and_right (does_quotient_fit (d.bound R) (d.entry R E)) _ f) (s.other_in j p))

  -- ---- the other rows
  changed_stands : (i : ℕ) → i < length t.lines
      → does_changed_fit e pivot (line_at t.lines i)
      ≡ (does_less_fit (d.bound (line_at t.lines i).basic) (d.entry (line_at t.lines i).basic E) (new_bound d E R)
      && do_coefficients_fit n d E R (d.entry (line_at t.lines i).basic E) (d.entry (line_at t.lines i).basic))
  changed_stands i p =
      (λ z. does_less_fit (sym (s.bounds i p) z) (sym (s.entries i e p inside) z) (pivot_bound z)
      && coefficients_stand (fraction_at (line_at t.lines i).cells e) (line_at t.lines i).cells (d.entry (line_at t.lines i).basic) (k.cells i p) (k.fractions i e p inside).above (λ j q. s.entries i j p q) z)
      ∙ ap (λ (q : Exact). does_less_fit (d.bound (line_at t.lines i).basic) (d.entry (line_at t.lines i).basic E) (new_bound d E R) && do_coefficients_fit n d E R q (d.entry (line_at t.lines i).basic)) (sym (s.entries i e p inside))

  pub others_stand : (list_all (does_changed_fit e pivot) (take r t.lines) && list_all (does_changed_fit e pivot) (drop (r + 1) t.lines)) ≡ do_others_fit n d E R
  others_stand = same_bool _ _ there back
    where
      there : (list_all (does_changed_fit e pivot) (take r t.lines) && list_all (does_changed_fit e pivot) (drop (r + 1) t.lines)) ≡ true → do_others_fit n d E R ≡ true
      there f = all_true _ n (λ v p. by v p (d.is_basic v) refl (nat_eq v R) refl)
        where
          by : (v : ℕ) → v < n → (b : Bool) → d.is_basic v ≡ b → (c : Bool) → nat_eq v R ≡ c
              → ((not (d.is_basic v) || nat_eq v R) || (does_less_fit (d.bound v) (d.entry v E) (new_bound d E R) && do_coefficients_fit n d E R (d.entry v E) (d.entry v))) ≡ true
          by v p false u c w = rw u refl
          by v p true u true w = rw (u, w) refl
          by v p true u false w =
              let i = s.line v in
              let q : i < length t.lines = s.line_in v p u in
              let at = s.line_is v p u in
              let other : i ≢ r = λ (x : i ≡ r). true_false (sym (eq_same R) ∙ (ap (λ (y : ℕ). nat_eq y R) (ap (λ (y : ℕ). (line_at t.lines y).basic) (sym x) ∙ at) ∙ w)) in
              let fit : does_changed_fit e pivot (line_at t.lines i) ≡ true = beside_at (does_changed_fit e pivot) t.lines r i _ f q other in
              rw (u, w) (subst (λ (y : ℕ). (does_less_fit (d.bound y) (d.entry y E) (new_bound d E R) && do_coefficients_fit n d E R (d.entry y E) (d.entry y)) ≡ true) at (sym (changed_stands i q) ∙ fit))

      back : do_others_fit n d E R ≡ true → (list_all (does_changed_fit e pivot) (take r t.lines) && list_all (does_changed_fit e pivot) (drop (r + 1) t.lines)) ≡ true
      back f = beside_true (does_changed_fit e pivot) t.lines r _ at
        where
          at : (i : ℕ) → i < length t.lines → i ≢ r → does_changed_fit e pivot (line_at t.lines i) ≡ true
          at i p o =
              let v = (line_at t.lines i).basic in
              let other : v ≢ R = λ (x : v ≡ R). o (sym (s.basic_line i p) ∙ (ap s.line x ∙ s.basic_line r line)) in
              let test = all_at (λ v. (not (d.is_basic v) || nat_eq v R) || (does_less_fit (d.bound v) (d.entry v E) (new_bound d E R) && do_coefficients_fit n d E R (d.entry v E) (d.entry v))) n v f (s.basic_in i p) in
              changed_stands i p
              ∙ ((λ z. (not (sym (s.basic_is i p) z) || sym (eq_other v R other) z) || (does_less_fit (d.bound v) (d.entry v E) (new_bound d E R) && do_coefficients_fit n d E R (d.entry v E) (d.entry v)))
              ∙ test)

  -- ---- the objective, and then the whole table
  pub objective_stands : does_table_objective_fit e pivot t.value t.costs ≡ does_objective_fit n d E R
  objective_stands =
      (λ z. (does_product_fit (sym (s.costs e inside) z) (pivot_bound z) && does_sum_fit (sym s.value z) (times (sym (s.costs e inside) z) (pivot_bound z)))
      && coefficients_stand (fraction_at t.costs e) t.costs d.cost k.costs (k.prices e inside).above (λ j q. s.costs j q) z)
      ∙ ap (λ (q : Exact). (does_product_fit (d.cost E) (new_bound d E R) && does_sum_fit d.value (times (d.cost E) (new_bound d E R))) && do_coefficients_fit n d E R q d.cost) (sym (s.costs e inside))

  pub table_stands : does_table_fit e r t ≡ (does_row_fit n d E R && (do_others_fit n d E R && does_objective_fit n d E R))
  table_stands = (λ z. (row_stands z && others_stand z) && objective_stands z) ∙ and_assoc (does_row_fit n d E R) (do_others_fit n d E R) (does_objective_fit n d E R)
    where
      and_assoc : (a b c : Bool) → ((a && b) && c) ≡ (a && (b && c))
      and_assoc true b c = refl
      and_assoc false b c = refl
