-- Each line gives the value of at most one column, and each nonbasic variable gives at most one dual.
use Rattle.std.proofs.Common.{◌≡◌, ◌≢◌, ℕ, ◌+◌, ◌-◌, ◌<◌, ◌≤◌, List, length, Bool, true, false, not, ◌&&◌, cond, ⊎_elim, refl, sym, ap, subst, ◌∙◌, arith}
use Rattle.std.proofs.lemmas.{Bool.cases_eq, List.length-set}
use Rattle.std.specs.{Bool.nat_lt, List.slice_set}
use Rattle.dd_fraction.specs.Exact.{Exact, minus}
use Rattle.dd_simplex.specs.{Programs.fraction_at, Programs.zero_of, Dictionaries.Dictionary}
use Rattle.dd_simplex.specs.table.{Lines.Line, Lines.Table, Lines.line_at, Lines.other_at, Standing.StandsFor}
use Rattle.dd_simplex.specs.table.Values.{column_so_far, dual_so_far, GiveColumns, GiveDuals}
use Rattle.dd_simplex.proofs.Places.{set_here, set_else}

lt_more : (a i : ℕ) → a ≢ i → nat_lt a (i + 1) ≡ nat_lt a i
lt_more a i h = grind (arith, h)

lt_here : (i : ℕ) → nat_lt i (i + 1) ≡ true
lt_here i = grind arith

-- ---- columns
column_else : (n : ℕ) (t : Table) (d : Dictionary) (s : StandsFor n t d) (i j : ℕ) → j < n → i < length t.lines → j ≢ (line_at t.lines i).basic
    → column_so_far s.line d i j ≡ column_so_far s.line d (i + 1) j
column_else n t d s i j p q h = by (d.is_basic j) refl
  where
    by : (b : Bool) → d.is_basic j ≡ b → column_so_far s.line d i j ≡ column_so_far s.line d (i + 1) j
    by false e = rw e refl
    by true e =
        let o : s.line j ≢ i = λ (x : s.line j ≡ i). h (sym (s.line_is j p e) ∙ ap (λ (k : ℕ). (line_at t.lines k).basic) x) in
        ap (λ (b : Bool). cond (d.is_basic j && b) (d.bound j) zero_of) (sym (lt_more (s.line j) i o))

column_here : (n : ℕ) (t : Table) (d : Dictionary) (s : StandsFor n t d) (i : ℕ) → i < length t.lines
    → (line_at t.lines i).bound ≡ column_so_far s.line d (i + 1) (line_at t.lines i).basic
column_here n t d s i q =
    sym ((λ z. cond (s.basic_is i q z && (ap (λ (k : ℕ). nat_lt k (i + 1)) (s.basic_line i q) ∙ lt_here i) z) (s.bounds i q z) zero_of))

pub columns_set : (lines : List Line) (c i : ℕ) (values : List Exact) (b : ℕ) (a : Exact) → i < length lines → b ≡ (line_at lines i).basic → a ≡ (line_at lines i).bound → b < c
    → GiveColumns lines c i values → GiveColumns lines c (i + 1) (slice_set values b a)
columns_set lines c i values b a q sb sa r g = record {
  size = length-set values b a ∙ g.size;
  each = λ n t d s e m j p.
      let inside : i < length t.lines = let z = ap length e in omega (arith, z, q) in
      let name : b ≡ (line_at t.lines i).basic = sb ∙ ap (λ (ls : List Line). (line_at ls i).basic) (sym e) in
      let bound : a ≡ (line_at t.lines i).bound = sa ∙ ap (λ (ls : List Line). (line_at ls i).bound) (sym e) in
      ⊎_elim
      (λ (x : j ≡ b). subst (λ (k : ℕ). fraction_at (slice_set values b a) k ≡ column_so_far s.line d (i + 1) k) (sym x)
      (set_here values b a (let z = g.size in omega (arith, r, z)) ∙ (bound ∙ (column_here n t d s i inside ∙ ap (column_so_far s.line d (i + 1)) (sym name)))))
      (λ (x : j ≢ b). set_else values b j a x ∙ (g.each n t d s e m j p ∙ column_else n t d s i j (omega (arith, p, m)) inside (λ (y : j ≡ (line_at t.lines i).basic). x (y ∙ sym name))))
      (cases_eq j b);
}

pub columns_skip : (lines : List Line) (c i : ℕ) (values : List Exact) (b : ℕ) → i < length lines → b ≡ (line_at lines i).basic → c ≤ b
    → GiveColumns lines c i values → GiveColumns lines c (i + 1) values
columns_skip lines c i values b q sb r g = record {
  size = g.size;
  each = λ n t d s e m j p.
      let inside : i < length t.lines = let z = ap length e in omega (arith, z, q) in
      let name : b ≡ (line_at t.lines i).basic = sb ∙ ap (λ (ls : List Line). (line_at ls i).basic) (sym e) in
      g.each n t d s e m j p ∙ column_else n t d s i j (omega (arith, p, m)) inside (λ (y : j ≡ (line_at t.lines i).basic). omega (arith, y, name, p, r));
}

-- ---- duals
dual_else : (n : ℕ) (t : Table) (d : Dictionary) (s : StandsFor n t d) (i w : ℕ) → w < n → i < length t.others → w ≢ other_at t.others i
    → dual_so_far s.column d i w ≡ dual_so_far s.column d (i + 1) w
dual_else n t d s i w p q h = by (d.is_basic w) refl
  where
    by : (b : Bool) → d.is_basic w ≡ b → dual_so_far s.column d i w ≡ dual_so_far s.column d (i + 1) w
    by true e = rw e refl
    by false e =
        let o : s.column w ≢ i = λ (x : s.column w ≡ i). h (sym (s.column_is w p e) ∙ ap (other_at t.others) x) in
        ap (λ (b : Bool). cond (not (d.is_basic w) && b) (minus (d.cost w)) zero_of) (sym (lt_more (s.column w) i o))

dual_here : (n : ℕ) (t : Table) (d : Dictionary) (s : StandsFor n t d) (i : ℕ) → i < length t.others
    → minus (fraction_at t.costs i) ≡ dual_so_far s.column d (i + 1) (other_at t.others i)
dual_here n t d s i q =
    sym ((λ z. cond (not (s.other_is i q z) && (ap (λ (k : ℕ). nat_lt k (i + 1)) (s.other_column i q) ∙ lt_here i) z) (minus (s.costs i q z)) zero_of))

pub duals_set : (t : Table) (c i : ℕ) (duals : List Exact) (w : ℕ) (a : Exact) → i < length t.others → w ≡ other_at t.others i → a ≡ minus (fraction_at t.costs i)
    → c ≤ w → w < c + length t.lines → GiveDuals t c i duals → GiveDuals t c (i + 1) (slice_set duals (w - c) a)
duals_set t c i duals w a q sw sa r v g = record {
  size = length-set duals (w - c) a ∙ g.size;
  each = λ n d s m k p. ⊎_elim
      (λ (x : k ≡ w - c). subst (λ (y : ℕ). fraction_at (slice_set duals (w - c) a) y ≡ dual_so_far s.column d (i + 1) (c + y)) (sym x)
      (set_here duals (w - c) a (let z = g.size in omega (arith, r, v, z)) ∙ (sa ∙ (dual_here n t d s i q ∙ ap (dual_so_far s.column d (i + 1)) (sym sw ∙ sym (put_on c w r))))))
      (λ (x : k ≢ w - c). set_else duals (w - c) k a x
      ∙ (g.each n d s m k p ∙ dual_else n t d s i (c + k) (omega (arith, p, m)) q (λ (y : c + k ≡ other_at t.others i). x (let z = y ∙ sym sw in omega (arith, z)))))
      (cases_eq k (w - c));
}
  where
    put_on : (n v : ℕ) → n ≤ v → n + (v - n) ≡ v
    put_on n v p = omega arith

pub duals_skip : (t : Table) (c i : ℕ) (duals : List Exact) (w : ℕ) → i < length t.others → w ≡ other_at t.others i → w < c
    → GiveDuals t c i duals → GiveDuals t c (i + 1) duals
duals_skip t c i duals w q sw r g = record {
  size = g.size;
  each = λ n d s m k p. g.each n d s m k p ∙ dual_else n t d s i (c + k) (omega (arith, p, m)) q (λ (y : c + k ≡ other_at t.others i). let z = y ∙ sym sw in omega (arith, z, r));
}
