-- Whether each symbol of a window is one that its node allows.
use Rattle.std.proofs.Common.{◌≡◌, ℕ, zero, suc, ◌+◌, ◌*◌, ◌/◌, ◌%◌, ◌<◌, ◌≤◌, Bool, true, false, List, [], ◌∷◌, length, get_or, ℤ, pos, ◌≤ℤ◌, unsigned_abs, Option, Some, None, refl, ap, sym, ◌∙◌, subst, arith}
use Rattle.std.proofs.lemmas.{Int.ints, Bool.and_parts, Bool.ltb-true, Bool.lt-ltb, Bool.cond_both}
use Rattle.std.proofs.lemmas.Nat.{mod-mul-add, div-add-mod', mod_below, div-mul-add}
use Rattle.std.specs.Prelude.{nat_lt, int_le, slice_get, IfSome, cond, ◌&&◌}
use Rattle.dd_lattice.specs.declared.position.Cell.{Cell}
use Rattle.dd_pattern.specs.Periods.{residue}
use Rattle.dd_formula.specs.{LocalRule.LocalRule, LocalRule.rule_allows, Allowed.AreAllowed}
use Rattle.dd_strip.specs.{declared.strip.Strip.Strip, Strips.IsSized, Strips.IsFor, Strips.cells, Strips.positions}
use Rattle.dd_transfer.specs.Windows.{IsFullWindow, Shown, slice_index_of, window_index, shown_look, cell_at}
use Rattle.dd_transfer.specs.placing.Formulas.{AllowsAll}
use Rattle.dd_transfer.proofs.Places.{parts_of, index_of_cell}
use Rattle.dd_values.specs.lemmas.Numbers.{le_from}

-- the symbol at a place is allowed at the place's node
abbrev pub allowed_at : LocalRule → Shown → ℕ → Type 0
allowed_at r w k = rule_allows r (k % r.nodes) (get_or w.symbols k 0) ≡ true

-- a cell's place modulo the number of nodes is its node
node_of : (s : Strip) (c : Cell) → c.node < s.nodes → window_index s c % s.nodes ≡ c.node
node_of s c h =
    let x = unsigned_abs c.position.x in
    let row = residue c.position.z s.z * s.y + residue c.position.y s.y in
    let together : window_index s c ≡ (x * positions s + row) * s.nodes + c.node = omega arith in
    ap (λ (i : ℕ). i % s.nodes) together ∙ mod-mul-add (x * positions s + row) s.nodes c.node h

symbol_allowed : (r : LocalRule) (a : ℕ) (xs : List ℕ) (i : ℕ) → (i < length xs → rule_allows r a (get_or xs i 0) ≡ true) → IfSome (slice_get xs i) (λ s. rule_allows r a s ≡ true)
symbol_allowed r a [] i h = tt
symbol_allowed r a (x ∷ xs) zero h = h (omega arith)
symbol_allowed r a (x ∷ xs) (suc i) h = symbol_allowed r a xs i (λ lt. h (omega arith))

pub all_allowed : (r : LocalRule) (w : Shown) → IsFullWindow r w → ((k : ℕ) → k < length w.symbols → allowed_at r w k) → AreAllowed r (shown_look w)
all_allowed r w full h c =
    cond_both (int_le (pos 0) c.position.x && nat_lt c.node w.strip.nodes) (slice_get w.symbols (window_index w.strip c)) None (λ o. IfSome o (λ s. rule_allows r c.node s ≡ true))
    (λ inside.
    let node : c.node < w.strip.nodes = ltb-true _ _ (and_parts (int_le (pos 0) c.position.x) (nat_lt c.node w.strip.nodes) inside).1 in
    let same : window_index w.strip c % r.nodes ≡ c.node = ap (λ (n : ℕ). window_index w.strip c % n) (sym full.strip_for.nodes) ∙ node_of w.strip c node in
    symbol_allowed r c.node w.symbols (window_index w.strip c)
    (λ lt. subst (λ (a : ℕ). rule_allows r a (get_or w.symbols (window_index w.strip c) 0) ≡ true) same (h (window_index w.strip c) lt)))
    (λ _. tt)

-- each symbol is allowed if each node allows all symbols
pub allowed_by_all : (r : LocalRule) (w : Shown) → IsFullWindow r w → AllowsAll r → (k : ℕ) → k < length w.symbols → allowed_at r w k
allowed_by_all r w full all k lt =
    let some : 0 < r.nodes = omega (arith, full.strip_for.sized.nodes_some, full.strip_for.nodes) in
    all (k % r.nodes) (mod_below k r.nodes some) (get_or w.symbols k 0) (full.known k 0 lt)

-- the cell at the place k of a window
abbrev pub cell_of : Strip → ℕ → Cell
cell_of s k = cell_at s (pos (k / cells s)) (k % cells s)

pub some_cells : (s : Strip) → IsSized s → 0 < cells s
some_cells s sized = positive s.nodes s.y s.z sized.nodes_some sized.y_some sized.z_some
  where
    positive : (a b c : ℕ) → 0 < a → 0 < b → 0 < c → 0 < a * (b * c)
    positive zero b c p q t = absurd (omega arith)
    positive (suc a) zero c p q t = absurd (omega arith)
    positive (suc a) (suc b) zero p q t = absurd (omega arith)
    positive (suc a) (suc b) (suc c) p q t = omega arith

place_of : (s : Strip) (k : ℕ) → IsSized s → window_index s (cell_of s k) ≡ k
place_of s k sized =
    let some = some_cells s sized in
    let i = index_of_cell s (pos (k / cells s)) (k % cells s) sized (mod_below k (cells s) some) in
    ap (λ (x : ℕ). k / cells s * cells s + x) i ∙ div-add-mod' k (cells s)

seen_at : (xs : List ℕ) (k : ℕ) → k < length xs → slice_get xs k ≡ Some (get_or xs k 0)
seen_at [] k h = absurd (omega arith)
seen_at (x ∷ xs) zero h = refl
seen_at (x ∷ xs) (suc k) h = seen_at xs k (omega arith)

pub allowed_each : (r : LocalRule) (w : Shown) → IsFullWindow r w → AreAllowed r (shown_look w) → (k : ℕ) → k < length w.symbols → allowed_at r w k
allowed_each r w full h k lt =
    let s = w.strip in
    let sized = full.strip_for.sized in
    let c = cell_of s k in
    let p = parts_of s (k % cells s) sized (mod_below k (cells s) (some_cells s sized)) in
    let node : c.node < s.nodes = p.node in
    let index = place_of s k sized in
    let look : shown_look w c ≡ Some (get_or w.symbols k 0) = rw (le_from (pos 0) (pos (k / cells s)) (omega (arith, ints)), lt-ltb _ _ node) (ap (slice_get w.symbols) index ∙ seen_at w.symbols k lt) in
    let here : IfSome (Some (get_or w.symbols k 0)) (λ s. rule_allows r c.node s ≡ true) = subst (λ (o : Option ℕ). IfSome o (λ s. rule_allows r c.node s ≡ true)) look (h c) in
    let name : c.node ≡ k % r.nodes = sym (node_of s c node) ∙ (ap (λ (i : ℕ). i % s.nodes) index ∙ ap (λ (n : ℕ). k % n) full.strip_for.nodes) in
    subst (λ (a : ℕ). rule_allows r a (get_or w.symbols k 0) ≡ true) name here
