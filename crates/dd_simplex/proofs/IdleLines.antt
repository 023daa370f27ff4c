-- In a pivot, a line whose cell for the entering variable is 0 stays as it is, and no number in this step is too large. The lines of a table consist of
-- fractions in lowest terms that fit, and so does the solved line of a pivot, if no number was too large. Each line of a table has one cell for each
-- nonbasic variable.
use Rattle.std.proofs.Common.{◌≡◌, ◌≢◌, ℕ, suc, ◌<◌, List, [], ◌∷◌, length, drop, true, ◌&&◌, refl, sym, ap, subst, ◌∙◌, arith}
use Rattle.std.proofs.lemmas.List.{set-get_or}
use Rattle.std.proofs.lemmas.List.Elements.{All-get_or, All-from_get_or, All-set, All-map, All-drop, All-weaker}
use Rattle.std.specs.List.{slice_set, list_all, All}
use lib.IntN.{pos}
use Rattle.dd_fraction.specs.Exact.{Exact, times, minus, inverse}
use Rattle.dd_fraction.specs.{Checked.IsFraction, Checked.does_product_fit, Checked.does_sum_fit, lemmas.FractionFacts.IsFraction-inverse}
use Rattle.dd_fraction.specs.lemmas.Results.{IsFraction-whole}
use Rattle.dd_simplex.specs.Programs.{fraction_at, zero_of, one_of}
use Rattle.dd_simplex.specs.table.Lines.{Line, Table, HasFractions, line_at, less, do_all_less_fit, solved_line, does_solved_fit, changed_line, does_changed_fit}
use Rattle.dd_simplex.specs.table.Standing.{IsTable}
use Rattle.dd_simplex.proofs.{Firsts.and_left, Firsts.and_right, Idle.idle_left, Idle.zero_fraction_is, LineSteps.parted}
use Rattle.dd_simplex.proofs.PivotTests.{product_fraction}
use Rattle.dd_values.specs.lemmas.{Booleans.and_both, Lists.list_at}

head : (x : Exact) (xs : List Exact) → All IsFraction (x ∷ xs) → IsFraction x
head x xs h = h 0 x (omega arith)

tail : (x : Exact) (xs : List Exact) → All IsFraction (x ∷ xs) → All IsFraction xs
tail x xs h = λ k d p. h (suc k) d (omega (arith, p))

less_idle : (q : Exact) → IsFraction q → q.num ≡ pos 0 → (us bs : List Exact) → length us ≡ length bs → All IsFraction us → All IsFraction bs
    → (do_all_less_fit q us bs ≡ true) × (less q us bs ≡ us)
less_idle q f z [] bs h us_fit bs_fit = (refl, refl)
less_idle q f z (a ∷ us) [] h us_fit bs_fit = absurd (omega (arith, h))
less_idle q f z (a ∷ us) (b ∷ bs) h us_fit bs_fit =
    let here = idle_left a q b (head a us us_fit) f (head b bs bs_fit) z in
    let rest = less_idle q f z us bs (omega (arith, h)) (tail a us us_fit) (tail b bs bs_fit) in (
      and_both (does_product_fit q b && does_sum_fit a (minus (times q b))) (do_all_less_fit q us bs) here.fit rest.0,
      λ i. here.value i ∷ rest.1 i,
    )

pub idle_line : (e : ℕ) (pivot l : Line) → HasFractions pivot → HasFractions l → e < length l.cells → length l.cells ≡ length pivot.cells
    → (fraction_at l.cells e).num ≡ pos 0 → (does_changed_fit e pivot l ≡ true) × (changed_line e pivot l ≡ l)
idle_line e pivot l g h p s z =
    let q = fraction_at l.cells e in
    let f : IsFraction q = All-get_or IsFraction l.cells e zero_of p h.cells in
    let emptied : slice_set l.cells e zero_of ≡ l.cells = ap (slice_set l.cells e) (sym (zero_fraction_is q f z)) ∙ set-get_or l.cells e zero_of in
    let bound = idle_left l.bound q pivot.bound h.bound f g.bound z in
    let cells = less_idle q f z l.cells pivot.cells s h.cells g.cells in (
      and_both (does_product_fit q pivot.bound && does_sum_fit l.bound (minus (times q pivot.bound))) (do_all_less_fit q (slice_set l.cells e zero_of) pivot.cells)
          bound.fit (ap (λ (us : List Exact). do_all_less_fit q us pivot.cells) emptied ∙ cells.0),
      λ i. record { basic = l.basic; bound = bound.value i; cells = (ap (λ (us : List Exact). less q us pivot.cells) emptied ∙ cells.1) i },
    )

quotients : (k : Exact) → 0 < k.den → (xs : List Exact) → list_all (λ a. does_product_fit a k) xs ≡ true → All IsFraction xs → All (λ a. IsFraction (times a k)) xs
quotients k p xs f h =
    All-from_get_or (λ (a : Exact). IsFraction (times a k)) xs zero_of
    (λ i q. product_fraction (fraction_at xs i) k (All-get_or IsFraction xs i zero_of q h).above p (list_at (λ (a : Exact). does_product_fit a k) xs i zero_of f q))

pub solved_fractions : (v e : ℕ) (l : Line) → HasFractions l → e < length l.cells → (fraction_at l.cells e).num ≢ pos 0 → does_solved_fit e l ≡ true
    → HasFractions (solved_line v e l)
solved_fractions v e l h p o f =
    let k = inverse (fraction_at l.cells e) in
    let us = slice_set l.cells e one_of in
    let all = list_all (λ a. does_product_fit a k) us in
    let above = (IsFraction-inverse (fraction_at l.cells e) (All-get_or IsFraction l.cells e zero_of p h.cells) o).above in
    let own : All IsFraction us = All-set IsFraction l.cells e one_of (IsFraction-whole (pos 1) (omega arith)) h.cells in
    record {
      bound = product_fraction l.bound k h.bound.above above (and_left (does_product_fit l.bound k) all f);
      cells = All-map IsFraction (λ (a : Exact). times a k) us (quotients k above us (and_right (does_product_fit l.bound k) all f) own);
    }

pub table_fractions : (t : Table) → IsTable t → All HasFractions t.lines
table_fractions t k =
    All-from_get_or HasFractions t.lines (record { basic = 0; bound = zero_of; cells = [] }) (λ i p. record {
      bound = k.bounds i p;
      cells = All-from_get_or IsFraction (line_at t.lines i).cells zero_of (λ j q. k.fractions i j p (let z = k.cells i p in omega (arith, z, q)));
    })

pub table_sizes : (t : Table) → IsTable t → All (λ l. length l.cells ≡ length t.others) t.lines
table_sizes t k =
    All-from_get_or (λ (l : Line). length l.cells ≡ length t.others) t.lines (record { basic = 0; bound = zero_of; cells = [] }) k.cells

pub place_within : (t : Table) → IsTable t → (e : ℕ) → e < length t.others → All (λ l. e < length l.cells) t.lines
place_within t k e p =
    All-weaker (λ (l : Line). length l.cells ≡ length t.others) (λ (l : Line). e < length l.cells) (λ l h. omega (arith, h, p)) t.lines (table_sizes t k)

pub back_fractions : (rows back : List Line) (leaving : Line) (r : ℕ) → r < length rows → drop r rows ≡ leaving ∷ back → All HasFractions rows → All HasFractions back
back_fractions rows back leaving r p s h =
    let parts = parted rows back leaving r p s in
    subst (All HasFractions) (sym parts.1) (All-drop HasFractions (suc r) rows h)

pub pivot_fractions : (rows back : List Line) (leaving new : Line) (r v e : ℕ) → r < length rows → drop r rows ≡ leaving ∷ back → All HasFractions rows
    → e < length (line_at rows r).cells → (fraction_at (line_at rows r).cells e).num ≢ pos 0 → does_solved_fit e leaving ≡ true → new ≡ solved_line v e leaving → HasFractions new
pivot_fractions rows back leaving new r v e p s h q o f n =
    let parts = parted rows back leaving r p s in
    let fit : does_solved_fit e (line_at rows r) ≡ true = subst (λ (l : Line). does_solved_fit e l ≡ true) parts.0 f in
    let own : HasFractions (line_at rows r) = All-get_or HasFractions rows r (record { basic = 0; bound = zero_of; cells = [] }) p h in
    subst HasFractions (sym (n ∙ ap (solved_line v e) parts.0)) (solved_fractions v e (line_at rows r) own q o fit)
