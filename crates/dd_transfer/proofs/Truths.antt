-- A rule in a window. The cells of the slice at x are those whose y and z are at least 0 and below the strip's periods. If the rule is true at these
-- cells, it is true at every cell with this x, because the window's symbols repeat with the periods.
use Rattle.std.proofs.Common.{◌≡◌, ℕ, ◌+◌, ◌*◌, ◌<◌, true, ℤ, pos, ◌+ℤ◌, unsigned_abs, None, refl, ap, sym, ◌∙◌, subst, arith}
use Rattle.std.proofs.lemmas.Bool.{cond_both}
use Rattle.std.specs.Prelude.{nat_lt, int_le, slice_get, IfSome, cond, ◌&&◌}
use Rattle.dd_lattice.specs.{Place.Place, Place.place, Cells.cell, Cells.shifted, declared.position.Cell.Cell}
use Rattle.dd_pattern.specs.{Reading.HasSymbolsBelow, Periods.residue}
use Rattle.dd_expansion.specs.Terms.{origin_at}
use Rattle.dd_formula.specs.{LocalRule.LocalRule, LocalRule.is_true, lemmas.RuleLaws.truth_moved_back, lemmas.LookLaws.same_look}
use Rattle.dd_strip.specs.{declared.strip.Strip.Strip, Strips.IsSized, Strips.IsFor, Strips.cells}
use Rattle.dd_transfer.specs.Windows.{IsFullWindow, Shown, slice_index_of, window_index, shown_look, cell_at, IsTrueAlong}
use Rattle.dd_transfer.proofs.Places.{parts_of, slice_below, cell_at_index, residue_moved, flat_at}
use Rattle.dd_values.specs.lemmas.Lists.{below_at}

pub window_below : (r : LocalRule) (w : Shown) → IsFullWindow r w → HasSymbolsBelow r.symbols (shown_look w)
window_below r w full c =
    cond_both (int_le (pos 0) c.position.x && nat_lt c.node w.strip.nodes) (slice_get w.symbols (window_index w.strip c)) None (λ o. IfSome o (λ s. s < r.symbols))
    (λ _. below_at r.symbols w.symbols full.known (window_index w.strip c)) (λ _. tt)

-- a position modulo the strip's periods
abbrev pub into : Strip → Place → Place
into s v = place v.x (pos (residue v.y s.y)) (pos (residue v.z s.z))

look_into : (w : Shown) → IsSized w.strip → (v : Place) (d : Cell) → shown_look w (shifted v d) ≡ shown_look w (shifted (into w.strip v) d)
look_into w sized v d =
    let s = w.strip in
    let y = residue_moved d.position.y v.y s.y sized.y_some in
    let z = residue_moved d.position.z v.z s.z sized.z_some in
    ap (λ (m : ℕ). cond (int_le (pos 0) (d.position.x +ℤ v.x) && nat_lt d.node s.nodes) (slice_get w.symbols (unsigned_abs (d.position.x +ℤ v.x) * cells s + ((residue (d.position.z +ℤ v.z) s.z * s.y + m) * s.nodes + d.node))) None) y
    ∙ ap (λ (m : ℕ). cond (int_le (pos 0) (d.position.x +ℤ v.x) && nat_lt d.node s.nodes) (slice_get w.symbols (unsigned_abs (d.position.x +ℤ v.x) * cells s + ((m * s.y + residue (d.position.y +ℤ pos (residue v.y s.y)) s.y) * s.nodes + d.node))) None) z

truth_into : (r : LocalRule) (w : Shown) → IsSized w.strip → (v : Place) (a : ℕ) → is_true r (cell v a) (shown_look w) ≡ is_true r (cell (into w.strip v) a) (shown_look w)
truth_into r w sized v a =
    truth_moved_back r v a (shown_look w)
    ∙ (ap (is_true r (origin_at a)) (same_look (λ c. shown_look w (shifted v c)) (λ c. shown_look w (shifted (into w.strip v) c)) (look_into w sized v))
    ∙ sym (truth_moved_back r (into w.strip v) a (shown_look w)))

-- if the rule is true at each cell of the slice, it is true at every cell with its x
pub along_from_slice : (r : LocalRule) (w : Shown) (x : ℤ) → IsFor r w.strip → ((k : ℕ) → k < cells w.strip → is_true r (cell_at w.strip x k) (shown_look w) ≡ true) → IsTrueAlong r x (shown_look w)
along_from_slice r w x for h v a at flat below =
    let node : a < w.strip.nodes = omega (arith, below, for.nodes) in
    let index = slice_index_of w.strip (cell v a) in
    let here : is_true r (cell_at w.strip v.x index) (shown_look w) ≡ true =
    subst (λ (z : ℤ). is_true r (cell_at w.strip z index) (shown_look w) ≡ true) (sym at) (h index (slice_below w.strip (cell v a) for.sized node)) in
    truth_into r w for.sized v a
    ∙ (ap (λ c. is_true r c (shown_look w)) (sym (cell_at_index w.strip v.x (cell v a) for.sized node)) ∙ here)

-- if the rule is true at every cell with this x, it is true at each cell of the slice
pub slice_from_along : (r : LocalRule) (w : Shown) (x : ℤ) → IsFor r w.strip → IsTrueAlong r x (shown_look w) → (k : ℕ) → k < cells w.strip → is_true r (cell_at w.strip x k) (shown_look w) ≡ true
slice_from_along r w x for h k lt =
    let p = parts_of w.strip k for.sized lt in
    h (cell_at w.strip x k).position (cell_at w.strip x k).node refl (flat_at r w.strip x k for lt) (omega (arith, p.node, for.nodes))
