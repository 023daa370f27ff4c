-- Cells of a fundamental box: they lie in Z^d. There is at most one first cell at which a rule is false, and if there is one, the configuration isn't
-- in the subshift.
use Rattle.std.proofs.Common.{◌≡◌, ℕ, ◌<◌, ◌||◌, Bool, true, false, ℤ, pos, refl, ap, sym, subst, ◌∙◌, arith}
use Rattle.std.proofs.lemmas.Bool.{ltb-false, false≢true}
use Rattle.std.proofs.lemmas.Cmp.{nat_cmp_total, int_cmp_total, on_total, then_total}
use Rattle.std.specs.{Prelude.nat_lt, Ordering.int_eq, declared.cmp.Ordering.Ordering}
use Rattle.std.specs.declared.cmp.Ordering.TheVariants.{Less, Equal, Greater}
use Rattle.std.specs.Cmp.{IsTotalOrder}
use Rattle.dd_lattice.specs.{declared.position.Cell.Cell, Order.cell_cmp, lemmas.InOrderLaws.cells_equal, Place.Place}
use Rattle.dd_pattern.specs.{Periods.residue, Tile.Tile, Tile.IsTile, Tile.IsInBox, lemmas.Residues.residue_below}
use Rattle.dd_expansion.specs.Placed.{is_flat}
use Rattle.dd_formula.specs.{LocalRule.LocalRule, Living.Fits, Living.Lives, Living.IsFirstFalse}
use Rattle.dd_values.specs.lemmas.Booleans.{and_both}

axis_flat : (unused : Bool) (z : ℤ) → (unused ≡ false → z ≡ pos 0) → (unused || int_eq z (pos 0)) ≡ true
axis_flat true z is = refl
axis_flat false z is = ap (λ (c : ℤ). int_eq c (pos 0)) (is refl)

base_flat : (z : ℤ) (n : ℕ) → n ≡ 1 → pos (residue z n) ≡ z → z ≡ pos 0
base_flat z n one is =
    let below : residue z n < n = residue_below z n (omega (arith, one)) in
    let none : residue z n ≡ 0 = omega (arith, below, one) in
    sym is ∙ ap pos none

flat_in_box : (t : Tile) (c : Cell) → IsTile t → IsInBox t c → is_flat t.dimension c.position ≡ true
flat_in_box t c tile at =
    and_both (nat_lt 1 t.dimension || int_eq c.position.y (pos 0)) (nat_lt 2 t.dimension || int_eq c.position.z (pos 0))
    (axis_flat (nat_lt 1 t.dimension) c.position.y
    (λ unused. base_flat c.position.y t.periods.y (tile.periods.y_unused (let low = ltb-false 1 t.dimension unused in omega (arith, low))) (ap (λ (p : Place). p.y) at.base)))
    (axis_flat (nat_lt 2 t.dimension) c.position.z
    (λ unused. base_flat c.position.z t.periods.z (tile.periods.z_unused (let low = ltb-false 2 t.dimension unused in omega (arith, low))) (ap (λ (p : Place). p.z) at.base)))

-- a configuration that fits the rule isn't in the subshift if its box has a first cell at which the rule is false
pub not_both : (x : LocalRule) (t : Tile) → IsTile t → Fits x t → (c : Cell) → IsFirstFalse x t c → Lives x t → ⊥
not_both x t tile fits c first lives =
    let flat : is_flat x.dimension c.position ≡ true = subst (λ d. is_flat d c.position ≡ true) fits.dimension (flat_in_box t c tile first.within) in
    let node : c.node < x.nodes = subst (λ n. c.node < n) fits.nodes first.within.node in
    false≢true (sym first.here ∙ lives c.position c.node flat node)

-- ---- there is at most one first cell at which a rule is false

cells_total : IsTotalOrder cell_cmp
cells_total =
    then_total
    (on_total (λ (c : Cell). c.position)
    (then_total (then_total (on_total (λ (p : Place). p.z) int_cmp_total) (on_total (λ (p : Place). p.y) int_cmp_total)) (on_total (λ (p : Place). p.x) int_cmp_total)))
    (on_total (λ (c : Cell). c.node) nat_cmp_total)

pub first_cell : (x : LocalRule) (t : Tile) (c d : Cell) → IsFirstFalse x t c → IsFirstFalse x t d → c ≡ d
first_cell x t c d one other = cases (cell_cmp c d) refl where
  cases : (o : Ordering) → cell_cmp c d ≡ o → c ≡ d
  cases Less is = absurd (false≢true (sym one.here ∙ other.before c one.within is))
  cases Equal is = cells_equal c d is
  cases Greater is =
      let back : cell_cmp d c ≡ Less = cells_total.antisymm d c ∙ cc is in
      absurd (false≢true (sym other.here ∙ one.before d other.within back))
