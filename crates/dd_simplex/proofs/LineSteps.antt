-- The lines of a pivot: the leaving line (the one whose variable leaves), those after it, and all lines together; then the whole table.
use Rattle.std.proofs.Common.{◌≡◌, ℕ, zero, suc, ◌+◌, ◌<◌, List, [], ◌∷◌, ◌++◌, length, take, drop, add-one, refl, sym, ap, subst, ◌∙◌, arith, drop-cons}
use Rattle.std.proofs.lemmas.List.{Elements.All-drop, Elements.All-weaker, length-map, get_or-set_same}
use Rattle.std.specs.{Prelude.map, List.All, List.slice_set}
use Rattle.dd_simplex.specs.table.Lines.{Line, Table, line_at, other_at, solved_line, changed_line, changed_lines, changed_table, less}
use Rattle.dd_simplex.specs.Programs.{zero_of, fraction_at}
use Rattle.dd_fraction.specs.Exact.{Exact, plus, times}
use Rattle.dd_simplex.proofs.CellSteps.{solved_size}

-- `drop r` gives the leaving line and those after it
pub parted : (rows back : List Line) (leaving : Line) (r : ℕ) → r < length rows → drop r rows ≡ leaving ∷ back → (leaving ≡ line_at rows r) × (back ≡ drop (suc r) rows)
parted rows back leaving r p s =
    let at : drop r rows ≡ line_at rows r ∷ drop (suc r) rows = drop-cons rows r (record { basic = 0; bound = zero_of; cells = [] }) p in
    let both : leaving ∷ back ≡ line_at rows r ∷ drop (suc r) rows = sym s ∙ at in
    (cc, cc)

pub back_sizes : (rows back : List Line) (leaving new : Line) (r v e : ℕ) → r < length rows → drop r rows ≡ leaving ∷ back
    → All (λ l. length l.cells ≡ length (line_at rows r).cells) rows → new ≡ solved_line v e leaving → All (λ l. length l.cells ≡ length new.cells) back
back_sizes rows back leaving new r v e p s sizes n =
    let parts = parted rows back leaving r p s in
    let size : length new.cells ≡ length (line_at rows r).cells = ap (λ (l : Line). length l.cells) n ∙ solved_size v e leaving _ (ap (λ (l : Line). length l.cells) parts.0) in
    All-weaker (λ l. length l.cells ≡ length (line_at rows r).cells) (λ l. length l.cells ≡ length new.cells) (λ l h. h ∙ sym size) back
    (subst (All (λ l. length l.cells ≡ length (line_at rows r).cells)) (sym parts.1) (All-drop (λ l. length l.cells ≡ length (line_at rows r).cells) (suc r) rows sizes))

-- putting p at index r and applying f to all other elements gives the same list as applying f to all elements and then putting p at index r
rows_go : {A B : Type 0} (f : A → B) (xs : List A) (r : ℕ) (p : B) → r < length xs → map f (take r xs) ++ p ∷ map f (drop (suc r) xs) ≡ slice_set (map f xs) r p
rows_go f [] r p h = absurd (omega arith)
rows_go f (x ∷ xs) zero p h = refl
rows_go f (x ∷ xs) (suc r) p h = ap (λ t. f x ∷ t) (rows_go f xs r p (omega arith))

pub rows_pivoted : {A B : Type 0} (f : A → B) (xs : List A) (r : ℕ) (p : B) → r < length xs → map f (take r xs) ++ p ∷ map f (drop (r + 1) xs) ≡ slice_set (map f xs) r p
rows_pivoted f xs r p h = rw add-one (rows_go f xs r p h)

-- after the pivot, line r is the solved line
pub changed_at : (lines : List Line) (e r v : ℕ) → r < length lines → line_at (changed_lines e r v lines) r ≡ solved_line v e (line_at lines r)
changed_at lines e r v h =
    let pivot = solved_line v e (line_at lines r) in
    ap (λ (ls : List Line). line_at ls r) (rows_pivoted (changed_line e pivot) lines r pivot h) ∙ get_or-set_same (map (changed_line e pivot) lines) r pivot _ (simp length-map h)

abbrev pub table_of : List Line → List ℕ → Exact → List Exact → Table
table_of lines others value costs = record { lines = lines; others = others; value = value; costs = costs }

pub table_is : (t : Table) (e r : ℕ) (lines : List Line) (pivot : Line) (others : List ℕ) (value : Exact) (costs : List Exact) → r < length t.lines
    → lines ≡ changed_lines e r (other_at t.others e) t.lines → pivot ≡ line_at lines r → others ≡ slice_set t.others e (line_at t.lines r).basic
    → value ≡ plus t.value (times (fraction_at t.costs e) pivot.bound) → costs ≡ less (fraction_at t.costs e) (slice_set t.costs e zero_of) pivot.cells
    → table_of lines others value costs ≡ changed_table e r t
table_is t e r lines pivot others value costs h ls p os v cs =
    let c = fraction_at t.costs e in
    let s : pivot ≡ solved_line (other_at t.others e) e (line_at t.lines r) = p ∙ (ap (λ (xs : List Line). line_at xs r) ls ∙ changed_at t.lines e r (other_at t.others e) h) in
    let v2 = v ∙ ap (λ (l : Line). plus t.value (times c l.bound)) s in
    let c2 = cs ∙ ap (λ (l : Line). less c (slice_set t.costs e zero_of) l.cells) s in
    λ i. record { lines = ls i; others = os i; value = v2 i; costs = c2 i }
