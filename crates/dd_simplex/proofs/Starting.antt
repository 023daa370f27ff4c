-- The first table is well formed and stands for the first dictionary.
use Rattle.std.proofs.Common.{◌≡◌, ℕ, ◌+◌, ◌-◌, ◌<◌, ◌≤◌, length, Bool, true, false, cond, sym, ap, subst, ◌∙◌, arith}
use Rattle.std.specs.Bool.{nat_eq}
use lib.IntN.{pos}
use Rattle.dd_fraction.specs.{Checked.IsFraction, lemmas.Results.IsFraction-whole}
use Rattle.dd_simplex.specs.Programs.{LinearProgram, IsProgram, coefficient, bound_at, unit, fraction_at, zero_of, one_of}
use Rattle.dd_simplex.specs.{Dictionaries.count, Dictionaries.start_dictionary, table.Lines.Line, table.Lines.Table, table.Lines.line_at}
use Rattle.dd_simplex.specs.table.{Standing.IsTable, Standing.StandsFor, Steps.IsStart}
use Rattle.dd_simplex.proofs.Reaching.{start_column, start_slack}

module _ (p : LinearProgram) (t : Table) (g : IsProgram p) (h : IsStart p t) where
  zero_fraction : IsFraction zero_of
  zero_fraction = IsFraction-whole (pos 0) (omega arith)

  unit_fraction : (j : ℕ) → IsFraction (unit 0 j)
  unit_fraction j = by (nat_eq 0 j)
    where
      by : (b : Bool) → IsFraction (cond b one_of zero_of)
      by true = IsFraction-whole (pos 1) (omega arith)
      by false = zero_fraction

  row : (i : ℕ) → i < length t.lines → i < length p.rows
  row i q = let z = h.height in omega (arith, z, q)

  column : (j : ℕ) → j < length t.others → j < p.columns
  column j q = let z = h.width in omega (arith, z, q)

  basic : (i : ℕ) → i < length t.lines → (line_at t.lines i).basic ≡ p.columns + i
  basic i q = ap (λ (l : Line). l.basic) (h.lines i (row i q))

  pub start_table : IsTable t
  start_table = record {
    costs = h.costs_size ∙ sym h.width;
    cells = λ i q. ap (λ (l : Line). length l.cells) (h.lines i (row i q)) ∙ (g.sizes i (row i q) ∙ sym h.width);
    fractions = λ i j q r. subst (λ (l : Line). IsFraction (fraction_at l.cells j)) (sym (h.lines i (row i q))) (h.fractions i j (row i q) (column j r));
    bounds = λ i q. subst (λ (l : Line). IsFraction l.bound) (sym (h.lines i (row i q))) (h.bounds i (row i q));
    prices = λ j q. subst IsFraction (sym (h.costs j (column j q))) (unit_fraction j);
    value = subst IsFraction (sym h.value) zero_fraction;
  }

  slack : (v : ℕ) → (start_dictionary p).is_basic v ≡ true → p.columns ≤ v
  slack v b = grind (arith, b)

  put_on : (v : ℕ) → p.columns ≤ v → p.columns + (v - p.columns) ≡ v
  put_on v q = omega arith

  take_off : (i : ℕ) → p.columns + i - p.columns ≡ i
  take_off i = omega arith

  not_slack : (w : ℕ) → (start_dictionary p).is_basic w ≡ false → w < p.columns
  not_slack w b = grind (arith, b)

  slack_row : (v : ℕ) → v < count p → (start_dictionary p).is_basic v ≡ true → v - p.columns < length t.lines
  slack_row v q b = let low = slack v b in let z = h.height in omega (arith, q, low, z)

  pub start_stands : StandsFor (count p) t (start_dictionary p)
  start_stands = record {
    line = λ v. v - p.columns;
    column = λ w. w;
    line_in = slack_row;
    line_is = λ v q b. basic (v - p.columns) (slack_row v q b) ∙ put_on v (slack v b);
    column_in = λ w q b. let c = not_slack w b in let z = h.width in omega (arith, c, z);
    column_is = λ w q b. h.others w (not_slack w b);
    basic_in = λ i q. let e = basic i q in let c = row i q in omega (arith, e, c);
    basic_is = λ i q. ap (start_dictionary p).is_basic (basic i q) ∙ start_slack p i;
    basic_line = λ i q. ap (λ (v : ℕ). v - p.columns) (basic i q) ∙ take_off i;
    other_in = λ j q. let e = h.others j (column j q) in let c = column j q in omega (arith, e, c);
    other_is = λ j q. ap (start_dictionary p).is_basic (h.others j (column j q)) ∙ start_column p j (column j q);
    other_column = λ j q. h.others j (column j q);
    bounds = λ i q. ap (λ (v : ℕ). bound_at p (v - p.columns)) (basic i q) ∙ (ap (bound_at p) (take_off i) ∙ ap (λ (l : Line). l.bound) (sym (h.lines i (row i q))));
    entries = λ i j q r.
        (λ z. coefficient p (basic i q z - p.columns) (h.others j (column j r) z))
        ∙ (ap (λ (k : ℕ). coefficient p k j) (take_off i) ∙ ap (λ (l : Line). fraction_at l.cells j) (sym (h.lines i (row i q))));
    costs = λ j q. ap (unit 0) (h.others j (column j q)) ∙ sym (h.costs j (column j q));
    value = sym h.value;
  }
