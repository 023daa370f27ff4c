-- If a table stands for a dictionary, the table after a pivot stands for the dictionary after the same pivot. If all numbers of the pivot fit, the new
-- table is well formed.
use Rattle.std.proofs.Common.{◌≡◌, ◌≢◌, ℕ, ◌<◌, List, length, Bool, true, false, cond, ⊎_elim, refl, sym, ap, subst, ◌∙◌, arith}
use Rattle.std.proofs.lemmas.{Bool.cases_eq, List.length-set, List.get_or-set_same, List.get_or-set_other}
use Rattle.std.specs.{Bool.nat_eq, List.slice_set, List.list_all}
use lib.IntN.{pos}
use Rattle.dd_fraction.specs.{lemmas.FractionFacts.IsFraction-inverse, Exact.Exact, Exact.plus, Exact.times, Exact.minus, Exact.inverse}
use Rattle.dd_fraction.specs.Checked.{IsFraction, does_product_fit}
use Rattle.dd_simplex.specs.Programs.{fraction_at, zero_of, one_of}
use Rattle.dd_simplex.specs.Dictionaries.{Dictionary, pivoted, new_entry, less_product, replaced}
use Rattle.dd_simplex.specs.table.Lines.{Line, Table, line_at, other_at, less, do_all_less_fit, solved_line, changed_line, changed_lines, changed_table, does_solved_fit, does_changed_fit, do_lines_fit, does_table_fit, does_objective_line_fit as does_table_objective_fit}
use Rattle.dd_simplex.specs.table.Standing.{IsTable, StandsFor}
use Rattle.dd_simplex.proofs.Equations.{true_false, apart, then_entering, then_leaving, then_other}
use Rattle.dd_simplex.proofs.Firsts.{and_left, and_right}
use Rattle.dd_simplex.proofs.LineSteps.{changed_at}
use Rattle.dd_simplex.proofs.Places.{length_less, less_at, less_fits_at, beside_at, lines_size, line_other, solved_at, set_here, set_else}
use Rattle.dd_simplex.proofs.PivotTests.{pivot_length, other_apart, columns_apart, pivot_here, pivot_else, pivot_bound, less_here, less_else, product_fraction, sum_fraction, less_fraction}
use Rattle.dd_simplex.proofs.Totals.{eq_same}
use Rattle.dd_values.specs.lemmas.{Booleans.eq_other, Lists.list_at}

module _ (n : ℕ) (t : Table) (d : Dictionary) (k : IsTable t) (s : StandsFor n t d) (e r : ℕ) (inside : e < length t.others) (line : r < length t.lines) where
  abbrev E : ℕ
  E = other_at t.others e

  abbrev R : ℕ
  R = (line_at t.lines r).basic

  abbrev pivot : Line
  pivot = solved_line E e (line_at t.lines r)

  abbrev new_lines : List Line
  new_lines = changed_lines e r E t.lines

  abbrev new_others : List ℕ
  new_others = slice_set t.others e R

  lines_are : length new_lines ≡ length t.lines
  lines_are = lines_size t.lines e r (other_at t.others e) line

  others_are : length new_others ≡ length t.others
  others_are = length-set t.others e (line_at t.lines r).basic

  at_r : line_at new_lines r ≡ pivot
  at_r = changed_at t.lines e r (other_at t.others e) line

  at_i : (i : ℕ) → i < length t.lines → i ≢ r → line_at new_lines i ≡ changed_line e pivot (line_at t.lines i)
  at_i i p o = line_other t.lines e r (other_at t.others e) i line p o

  other_e : other_at new_others e ≡ R
  other_e = get_or-set_same t.others e (line_at t.lines r).basic 0 inside

  other_j : (j : ℕ) → j ≢ e → other_at new_others j ≡ other_at t.others j
  other_j j o = get_or-set_other t.others e j (line_at t.lines r).basic 0 o

  RE : R ≢ E
  RE = apart d (line_at t.lines r).basic (other_at t.others e) (s.basic_is r line) (s.other_is e inside)

  -- the basic variable of a line that stays is neither E, which enters, nor R, which leaves
  stays_E : (i : ℕ) → i < length t.lines → (line_at t.lines i).basic ≢ E
  stays_E i p = apart d (line_at t.lines i).basic (other_at t.others e) (s.basic_is i p) (s.other_is e inside)

  stays_R : (i : ℕ) → i < length t.lines → i ≢ r → (line_at t.lines i).basic ≢ R
  stays_R i p o x = o (sym (s.basic_line i p) ∙ (ap s.line x ∙ s.basic_line r line))

  -- ---- coefficients
  abbrev d2 : Dictionary
  d2 = pivoted d E R

  -- the new coefficients of a line or of the objective are the same in the dictionary and in the table; the old ones are the list `us` in the table,
  -- and the function `a` in the dictionary
  replaced_at : (q : Exact) (us : List Exact) (a : ℕ → Exact) (j : ℕ) → length us ≡ length t.others → j < length t.others
      → ((i : ℕ) → i < length t.others → a (other_at t.others i) ≡ fraction_at us i)
      → replaced d E R q (other_at new_others j) (a (other_at new_others j)) ≡ fraction_at (less q (slice_set us e zero_of) pivot.cells) j
  replaced_at q us a j h p is = ⊎_elim
      (λ (v : j ≡ e).
      subst (λ (x : ℕ). replaced d E R q (other_at new_others x) (a (other_at new_others x)) ≡ fraction_at (less q (slice_set us e zero_of) pivot.cells) x) (sym v)
      (ap (λ (w : ℕ). replaced d E R q w (a w)) other_e ∙ (rw (eq_same (line_at t.lines r).basic) refl ∙ sym (less_here n t d k s e r inside line q us h))))
      (λ (v : j ≢ e).
      ap (λ (w : ℕ). replaced d E R q w (a w)) (other_j j v)
      ∙ (ap (λ (b : Bool). cond b (minus (times q (new_entry d E R (other_at t.others j)))) (less_product (a (other_at t.others j)) q (new_entry d E R (other_at t.others j))))
      (eq_other (other_at t.others j) (line_at t.lines r).basic (other_apart n t d k s e r inside line j p))
      ∙ (ap (λ (x : Exact). less_product x q (new_entry d E R (other_at t.others j))) (is j p)
      ∙ sym (less_else n t d k s e r inside line q us j h p v))))
      (cases_eq j e)

  pivot_at : (j : ℕ) → j < length t.others → new_entry d E R (other_at new_others j) ≡ fraction_at pivot.cells j
  pivot_at j p = ⊎_elim
      (λ (v : j ≡ e). subst (λ (x : ℕ). new_entry d E R (other_at new_others x) ≡ fraction_at pivot.cells x) (sym v)
      (ap (new_entry d E R) other_e ∙ sym (pivot_here n t d k s e r inside line)))
      (λ (v : j ≢ e). ap (new_entry d E R) (other_j j v) ∙ sym (pivot_else n t d k s e r inside line j p v))
      (cases_eq j e)

  -- ---- the line or the place of each variable
  new_line : ℕ → ℕ
  new_line v = cond (nat_eq v E) r (s.line v)

  new_column : ℕ → ℕ
  new_column w = cond (nat_eq w R) e (s.column w)

  line_E : new_line E ≡ r
  unfolding new_line
  line_E = rw (eq_same (other_at t.others e)) refl

  line_else : (v : ℕ) → v ≢ E → new_line v ≡ s.line v
  unfolding new_line
  line_else v o = rw (eq_other v (other_at t.others e) o) refl

  column_R : new_column R ≡ e
  unfolding new_column
  column_R = rw (eq_same (line_at t.lines r).basic) refl

  column_else : (w : ℕ) → w ≢ R → new_column w ≡ s.column w
  unfolding new_column
  column_else w o = rw (eq_other w (line_at t.lines r).basic o) refl

  basic_E : d2.is_basic E ≡ true
  basic_E = then_entering d (other_at t.others e) (line_at t.lines r).basic

  basic_R : d2.is_basic R ≡ false
  basic_R = then_leaving d (other_at t.others e) (line_at t.lines r).basic RE (s.basic_is r line)

  basic_else : (v : ℕ) → v ≢ E → v ≢ R → d2.is_basic v ≡ d.is_basic v
  basic_else v o q = then_other d (other_at t.others e) (line_at t.lines r).basic v o q

  -- a variable other than E that is basic after the pivot was basic before it, and is not R
  old_line : (v : ℕ) → v < n → v ≢ E → d2.is_basic v ≡ true → (d.is_basic v ≡ true) × (v ≢ R)
  old_line v p o b =
      let vr : v ≢ R = λ (x : v ≡ R). true_false (sym b ∙ (ap d2.is_basic x ∙ basic_R)) in
      (sym (basic_else v o vr) ∙ b, vr)

  old_column : (w : ℕ) → w < n → w ≢ R → d2.is_basic w ≡ false → (d.is_basic w ≡ false) × (w ≢ E)
  old_column w p o b =
      let we : w ≢ E = λ (x : w ≡ E). true_false (sym basic_E ∙ (ap d2.is_basic (sym x) ∙ b)) in
      (sym (basic_else w we o) ∙ b, we)

  line_apart : (v : ℕ) → v < n → d.is_basic v ≡ true → v ≢ R → s.line v ≢ r
  line_apart v p b o x = o (sym (s.line_is v p b) ∙ ap (λ (i : ℕ). (line_at t.lines i).basic) x)

  column_apart : (w : ℕ) → w < n → d.is_basic w ≡ false → w ≢ E → s.column w ≢ e
  column_apart w p b o x = o (sym (s.column_is w p b) ∙ ap (other_at t.others) x)

  -- to show a property of each new line, it is enough to show it for the solved line and for each line that stays
  by_line : (P : ℕ → Type 0) → P r → ((i : ℕ) → i < length t.lines → i ≢ r → P i) → (i : ℕ) → i < length new_lines → P i
  by_line P a b i p =
      let q : i < length t.lines = let z = lines_are in omega (arith, z, p) in
      ⊎_elim (λ (x : i ≡ r). subst P (sym x) a) (λ (x : i ≢ r). b i q x) (cases_eq i r)

  by_column : (P : ℕ → Type 0) → P e → ((j : ℕ) → j < length t.others → j ≢ e → P j) → (j : ℕ) → j < length new_others → P j
  by_column P a b j p =
      let q : j < length t.others = let z = others_are in omega (arith, z, p) in
      ⊎_elim (λ (x : j ≡ e). subst P (sym x) a) (λ (x : j ≢ e). b j q x) (cases_eq j e)

  name_r : (line_at new_lines r).basic ≡ E
  name_r = ap (λ (l : Line). l.basic) at_r

  name_i : (i : ℕ) → i < length t.lines → i ≢ r → (line_at new_lines i).basic ≡ (line_at t.lines i).basic
  name_i i p o = ap (λ (l : Line). l.basic) (at_i i p o)

  pub pivot_stands : StandsFor n (changed_table e r t) (pivoted d (other_at t.others e) (line_at t.lines r).basic)
  pivot_stands = record {
    line = new_line;
    column = new_column;
    line_in = λ v p b. ⊎_elim
        (λ (x : v ≡ E). let a : new_line v ≡ r = ap new_line x ∙ line_E in let z = lines_are in omega (arith, a, z, line))
        (λ (x : v ≢ E).
        let o = old_line v p x b in
        let q = s.line_in v p o.0 in
        let a = line_else v x in let z = lines_are in omega (arith, a, q, z))
        (cases_eq v E);
    line_is = λ v p b. ⊎_elim
        (λ (x : v ≡ E). ap (λ (i : ℕ). (line_at new_lines i).basic) (ap new_line x ∙ line_E) ∙ (name_r ∙ sym x))
        (λ (x : v ≢ E).
        let o = old_line v p x b in
        ap (λ (i : ℕ). (line_at new_lines i).basic) (line_else v x) ∙ (name_i (s.line v) (s.line_in v p o.0) (line_apart v p o.0 o.1) ∙ s.line_is v p o.0))
        (cases_eq v E);
    column_in = λ w p b. ⊎_elim
        (λ (x : w ≡ R). let a : new_column w ≡ e = ap new_column x ∙ column_R in let z = others_are in omega (arith, a, z, inside))
        (λ (x : w ≢ R).
        let o = old_column w p x b in
        let q = s.column_in w p o.0 in
        let a = column_else w x in let z = others_are in omega (arith, a, q, z))
        (cases_eq w R);
    column_is = λ w p b. ⊎_elim
        (λ (x : w ≡ R). ap (other_at new_others) (ap new_column x ∙ column_R) ∙ (other_e ∙ sym x))
        (λ (x : w ≢ R).
        let o = old_column w p x b in
        ap (other_at new_others) (column_else w x) ∙ (other_j (s.column w) (column_apart w p o.0 o.1) ∙ s.column_is w p o.0))
        (cases_eq w R);
    basic_in = by_line (λ i. (line_at new_lines i).basic < n) (subst (λ (v : ℕ). v < n) (sym name_r) (s.other_in e inside)) (λ i p o. subst (λ (v : ℕ). v < n) (sym (name_i i p o)) (s.basic_in i p));
    basic_is = by_line (λ i. d2.is_basic (line_at new_lines i).basic ≡ true) (ap d2.is_basic name_r ∙ basic_E)
        (λ i p o. ap d2.is_basic (name_i i p o) ∙ (basic_else (line_at t.lines i).basic (stays_E i p) (stays_R i p o) ∙ s.basic_is i p));
    basic_line = by_line (λ i. new_line (line_at new_lines i).basic ≡ i) (ap new_line name_r ∙ line_E)
        (λ i p o. ap new_line (name_i i p o) ∙ (line_else (line_at t.lines i).basic (stays_E i p) ∙ s.basic_line i p));
    other_in = by_column (λ j. other_at new_others j < n) (subst (λ (v : ℕ). v < n) (sym other_e) (s.basic_in r line)) (λ j p o. subst (λ (v : ℕ). v < n) (sym (other_j j o)) (s.other_in j p));
    other_is = by_column (λ j. d2.is_basic (other_at new_others j) ≡ false) (ap d2.is_basic other_e ∙ basic_R)
        (λ j p o. ap d2.is_basic (other_j j o)
        ∙ (basic_else (other_at t.others j) (columns_apart n t d k s e r inside line j p o) (other_apart n t d k s e r inside line j p) ∙ s.other_is j p));
    other_column = by_column (λ j. new_column (other_at new_others j) ≡ j) (ap new_column other_e ∙ column_R)
        (λ j p o. ap new_column (other_j j o) ∙ (column_else (other_at t.others j) (other_apart n t d k s e r inside line j p) ∙ s.other_column j p));
    bounds = by_line (λ i. d2.bound (line_at new_lines i).basic ≡ (line_at new_lines i).bound)
        (ap d2.bound name_r ∙ (rw (eq_same (other_at t.others e)) refl ∙ (sym (pivot_bound n t d k s e r inside line) ∙ ap (λ (l : Line). l.bound) (sym at_r))))
        (λ i p o. ap d2.bound (name_i i p o)
        ∙ (rw (eq_other (line_at t.lines i).basic (other_at t.others e) (stays_E i p)) refl
        ∙ ((λ z. less_product (s.bounds i p z) (s.entries i e p inside z) (sym (pivot_bound n t d k s e r inside line) z)) ∙ ap (λ (l : Line). l.bound) (sym (at_i i p o)))));
    entries = λ i j p q.
        let c : j < length t.others = let z = others_are in omega (arith, z, q) in
        by_line (λ i. d2.entry (line_at new_lines i).basic (other_at new_others j) ≡ fraction_at (line_at new_lines i).cells j)
        (ap (λ (v : ℕ). d2.entry v (other_at new_others j)) name_r
        ∙ (rw (eq_same (other_at t.others e)) refl ∙ (pivot_at j c ∙ ap (λ (l : Line). fraction_at l.cells j) (sym at_r))))
        (λ i p o. ap (λ (v : ℕ). d2.entry v (other_at new_others j)) (name_i i p o)
        ∙ (rw (eq_other (line_at t.lines i).basic (other_at t.others e) (stays_E i p)) refl
        ∙ (ap (λ (x : Exact). replaced d E R x (other_at new_others j) (d.entry (line_at t.lines i).basic (other_at new_others j))) (s.entries i e p inside)
        ∙ (replaced_at (fraction_at (line_at t.lines i).cells e) (line_at t.lines i).cells (d.entry (line_at t.lines i).basic) j (k.cells i p) c (λ m y. s.entries i m p y)
        ∙ ap (λ (l : Line). fraction_at l.cells j) (sym (at_i i p o))))))
        i p;
    costs = λ j q.
        let c : j < length t.others = let z = others_are in omega (arith, z, q) in
        ap (λ (x : Exact). replaced d E R x (other_at new_others j) (d.cost (other_at new_others j))) (s.costs e inside)
        ∙ replaced_at (fraction_at t.costs e) t.costs d.cost j k.costs c (λ m y. s.costs m y);
    value = λ z. plus (s.value z) (times (s.costs e inside z) (sym (pivot_bound n t d k s e r inside line) z));
  }

  -- ---- if all numbers of the pivot fit, the numbers of the new table are again fractions in lowest terms that fit
  module _ (nonzero : (fraction_at (line_at t.lines r).cells e).num ≢ pos 0) (fit : does_table_fit e r t ≡ true) where
    abbrev p_cell : Exact
    p_cell = fraction_at (line_at t.lines r).cells e

    lines_fit : do_lines_fit e r E t.lines ≡ true
    lines_fit = and_left (do_lines_fit e r E t.lines) (does_table_objective_fit e pivot t.value t.costs) fit

    solved_fit : does_solved_fit e (line_at t.lines r) ≡ true
    solved_fit = and_left (does_solved_fit e (line_at t.lines r)) _ lines_fit

    changed_fit : (i : ℕ) → i < length t.lines → i ≢ r → does_changed_fit e pivot (line_at t.lines i) ≡ true
    changed_fit i p o = beside_at (does_changed_fit e pivot) t.lines r i _ (and_right (does_solved_fit e (line_at t.lines r)) _ lines_fit) p o

    objective_fit : does_table_objective_fit e pivot t.value t.costs ≡ true
    objective_fit = and_right (do_lines_fit e r E t.lines) (does_table_objective_fit e pivot t.value t.costs) fit

    upside : IsFraction (inverse p_cell)
    upside = IsFraction-inverse p_cell (k.fractions r e line inside) nonzero

    bound_fraction : IsFraction pivot.bound
    bound_fraction = product_fraction (line_at t.lines r).bound (inverse p_cell) (k.bounds r line).above upside.above
        (and_left (does_product_fit (line_at t.lines r).bound (inverse p_cell)) (list_all (λ a. does_product_fit a (inverse p_cell)) (slice_set (line_at t.lines r).cells e one_of)) solved_fit)

    in_row : (j : ℕ) → j < length t.others → j < length (line_at t.lines r).cells
    in_row j p = let z = k.cells r line in omega (arith, z, p)

    divided_above : (j : ℕ) → j < length t.others → 0 < (fraction_at (slice_set (line_at t.lines r).cells e one_of) j).den
    divided_above j p = ⊎_elim
        (λ (x : j ≡ e). subst (λ (y : ℕ). 0 < (fraction_at (slice_set (line_at t.lines r).cells e one_of) y).den) (sym x)
        (subst (λ (a : Exact). 0 < a.den) (sym (set_here (line_at t.lines r).cells e one_of (in_row e inside))) (omega arith)))
        (λ (x : j ≢ e). subst (λ (a : Exact). 0 < a.den) (sym (set_else (line_at t.lines r).cells e j one_of x)) (k.fractions r j line p).above)
        (cases_eq j e)

    cell_fraction : (j : ℕ) → j < length t.others → IsFraction (fraction_at pivot.cells j)
    cell_fraction j p =
        let f = list_at (λ a. does_product_fit a (inverse p_cell)) (slice_set (line_at t.lines r).cells e one_of) j zero_of
        (and_right (does_product_fit (line_at t.lines r).bound (inverse p_cell)) (list_all (λ a. does_product_fit a (inverse p_cell)) (slice_set (line_at t.lines r).cells e one_of)) solved_fit)
        (let z = length-set (line_at t.lines r).cells e one_of in let y = in_row j p in omega (arith, z, y)) in
        subst IsFraction (sym (solved_at E e j (line_at t.lines r) (in_row j p)))
        (product_fraction (fraction_at (slice_set (line_at t.lines r).cells e one_of) j) (inverse p_cell) (divided_above j p) upside.above f)

    -- if 0 is put at the place e of the coefficients `us`, q times the cells of the solved line are subtracted, and the numbers of this step fit, the
    -- results are fractions in lowest terms that fit
    less_fractions : (q : Exact) (us : List Exact) (j : ℕ) → length us ≡ length t.others → IsFraction q → ((i : ℕ) → i < length t.others → IsFraction (fraction_at us i))
        → do_all_less_fit q (slice_set us e zero_of) pivot.cells ≡ true → j < length t.others → IsFraction (fraction_at (less q (slice_set us e zero_of) pivot.cells) j)
    less_fractions q us j h o is f p =
        let size : length (slice_set us e zero_of) ≡ length pivot.cells = length-set us e zero_of ∙ (h ∙ sym (pivot_length n t d k s e r inside line)) in
        let in_set : j < length (slice_set us e zero_of) = let z = length-set us e zero_of in omega (arith, z, h, p) in
        subst IsFraction (sym (less_at q (slice_set us e zero_of) pivot.cells j size in_set))
        (less_fraction (fraction_at (slice_set us e zero_of) j) q (fraction_at pivot.cells j) above o.above (cell_fraction j p).above
        (less_fits_at q (slice_set us e zero_of) pivot.cells j size f in_set))
      where
        above : 0 < (fraction_at (slice_set us e zero_of) j).den
        above = ⊎_elim
            (λ (x : j ≡ e). subst (λ (y : ℕ). 0 < (fraction_at (slice_set us e zero_of) y).den) (sym x)
            (subst (λ (a : Exact). 0 < a.den) (sym (set_here us e zero_of (omega (arith, h, inside)))) (omega arith)))
            (λ (x : j ≢ e). subst (λ (a : Exact). 0 < a.den) (sym (set_else us e j zero_of x)) (is j p).above)
            (cases_eq j e)

    pub pivot_table : IsTable (changed_table e r t)
    pivot_table = record {
      costs = length_less (fraction_at t.costs e) (slice_set t.costs e zero_of) pivot.cells (length-set t.costs e zero_of ∙ (k.costs ∙ sym (pivot_length n t d k s e r inside line)))
          ∙ (length-set t.costs e zero_of ∙ (k.costs ∙ sym others_are));
      cells = by_line (λ i. length (line_at new_lines i).cells ≡ length new_others)
          (ap (λ (l : Line). length l.cells) at_r ∙ (pivot_length n t d k s e r inside line ∙ sym others_are))
          (λ i p o. ap (λ (l : Line). length l.cells) (at_i i p o)
          ∙ (length_less (fraction_at (line_at t.lines i).cells e) (slice_set (line_at t.lines i).cells e zero_of) pivot.cells (length-set (line_at t.lines i).cells e zero_of ∙ (k.cells i p ∙ sym (pivot_length n t d k s e r inside line)))
          ∙ (length-set (line_at t.lines i).cells e zero_of ∙ (k.cells i p ∙ sym others_are))));
      fractions = λ i j p q.
          let c : j < length t.others = let z = others_are in omega (arith, z, q) in
          by_line (λ i. IsFraction (fraction_at (line_at new_lines i).cells j))
          (subst (λ (l : Line). IsFraction (fraction_at l.cells j)) (sym at_r) (cell_fraction j c))
          (λ i p o. subst (λ (l : Line). IsFraction (fraction_at l.cells j)) (sym (at_i i p o))
          (less_fractions (fraction_at (line_at t.lines i).cells e) (line_at t.lines i).cells j (k.cells i p) (k.fractions i e p inside) (λ m y. k.fractions i m p y)
          (and_right _ (do_all_less_fit (fraction_at (line_at t.lines i).cells e) (slice_set (line_at t.lines i).cells e zero_of) pivot.cells) (changed_fit i p o)) c))
          i p;
      bounds = by_line (λ i. IsFraction (line_at new_lines i).bound)
          (subst (λ (l : Line). IsFraction l.bound) (sym at_r) bound_fraction)
          (λ i p o. subst (λ (l : Line). IsFraction l.bound) (sym (at_i i p o))
          (less_fraction (line_at t.lines i).bound (fraction_at (line_at t.lines i).cells e) pivot.bound (k.bounds i p).above (k.fractions i e p inside).above bound_fraction.above
          (and_left _ (do_all_less_fit (fraction_at (line_at t.lines i).cells e) (slice_set (line_at t.lines i).cells e zero_of) pivot.cells) (changed_fit i p o))));
      prices = λ j q.
          let c : j < length t.others = let z = others_are in omega (arith, z, q) in
          less_fractions (fraction_at t.costs e) t.costs j k.costs (k.prices e inside) k.prices
          (and_right _ (do_all_less_fit (fraction_at t.costs e) (slice_set t.costs e zero_of) pivot.cells) objective_fit) c;
      value =
          let f = and_left _ (do_all_less_fit (fraction_at t.costs e) (slice_set t.costs e zero_of) pivot.cells) objective_fit in
          let g = product_fraction (fraction_at t.costs e) pivot.bound (k.prices e inside).above bound_fraction.above (and_left (does_product_fit (fraction_at t.costs e) pivot.bound) _ f) in
          sum_fraction t.value (times (fraction_at t.costs e) pivot.bound) k.value.above g.above (and_right (does_product_fit (fraction_at t.costs e) pivot.bound) _ f);
    }
