-- A rule has at most one program along given vectors, and if it has one, that program isn't too large. Both hold because only one list has the cells
-- of the ground in cell order (by z, then y, then x, then the node).
use Rattle.std.proofs.Common.{◌≡◌, ℕ, ◌+◌, ◌<◌, ◌≤◌, List, length, take, inl, inr, refl, sym, ap, subst, ◌∙◌, rules, arith}
use Rattle.std.proofs.lemmas.{Bool.cases_lt, List.take_all}
use Rattle.std.specs.Cmp.{IsTotalOrder, Rules.comparing}
use Rattle.dd_lattice.specs.{Place.Place, Order.place_cmp, Regions.IsRegionOf, declared.position.Cell.Cell}
use Rattle.dd_formula.specs.LocalRule.{LocalRule}
use Rattle.dd_topology.specs.lemmas.OrderLaws.{same_sorted}
use Rattle.dd_rows.specs.{declared.rows.Row.Row, declared.rows.Rows.Rows, Domains.IsGround}
use Rattle.dd_rows.specs.{Fillings.fillings, Fillings.most_fillings, Fillings.HasManyFillings, Fillings.HasFewFillings, Patterns.patterns}
use Rattle.dd_rows.specs.Programs.{rows, column_count, IsProgramOf, IsLargeProgram}
use Rattle.dd_boxes.specs.Cells.{cells_on}

place_total : IsTotalOrder place_cmp
place_total = search (comparing, rules)

one_ground : (x : LocalRule) (radius margin : ℕ) (vs : List Place) (cs ds : List Cell) → IsGround x radius margin vs cs → IsGround x radius margin vs ds → cs ≡ ds
one_ground x radius margin vs cs ds a b =
    let same : a.positions ≡ b.positions =
    same_sorted place_cmp place_total a.positions b.positions a.region.region.ascending b.region.region.ascending
    (λ p c. (b.region.members p).1 ((a.region.members p).0 c)) (λ p c. (a.region.members p).1 ((b.region.members p).0 c)) in
    a.cells ∙ (ap (cells_on x.nodes) same ∙ sym b.cells)

pub one_program : (x : LocalRule) (ws : List ℕ) (radius margin : ℕ) (vs : List Place) (p q : Rows) → IsProgramOf x ws radius margin vs p → IsProgramOf x ws radius margin vs q → p ≡ q
one_program x ws radius margin vs p q a b =
    let same = one_ground x radius margin vs a.ground b.ground a.is_ground b.is_ground in
    let ps = a.patterns_are ∙ (ap (patterns x radius vs) same ∙ sym b.patterns_are) in
    let rs = a.rows_are ∙ (ap (rows x ws radius vs) same ∙ sym b.rows_are) in
    λ i. record { patterns = ps i; rows = rs i }

not_many : (x : LocalRule) (cs : List Cell) → HasFewFillings x cs → HasManyFillings x cs → ⊥
not_many x cs few many =
    elim (cases_lt (length cs) many.cells) [
      | inl long ↦
          let f = few (length cs) (omega arith) in
          let m = many.many in
          let all : take many.cells cs ≡ take (length cs) cs = take_all many.cells cs (omega (arith, long)) ∙ sym (take_all (length cs) cs (omega arith)) in
          let size = ap (λ (ds : List Cell). length (fillings x ds)) all in
          absurd (omega (arith, f, m, size))
      | inr short ↦ let f = few many.cells short in let m = many.many in absurd (omega (arith, f, m))
    ]

pub never_large : (x : LocalRule) (ws : List ℕ) (radius margin : ℕ) (vs : List Place) (p : Rows) → IsProgramOf x ws radius margin vs p → IsLargeProgram x ws radius margin vs → ⊥
never_large x ws radius margin vs p a l =
    let same = one_ground x radius margin vs l.ground a.ground l.is_ground a.is_ground in
    elim l.many [
      | inl many ↦ not_many x a.ground a.few_fillings (subst (HasManyFillings x) same many)
      | inr more ↦ elim more [
        | inl columns ↦
            let size : length p.patterns ≡ length (patterns x radius vs l.ground) = ap length (a.patterns_are ∙ ap (patterns x radius vs) (sym same)) in
            let few = subst (λ (n : ℕ). column_count (length vs) n ≤ 256) size a.few_columns in
            absurd (omega (arith, few, columns))
        | inr rows_many ↦
            let size : length p.rows ≡ length (rows x ws radius vs l.ground) = ap length (a.rows_are ∙ ap (rows x ws radius vs) (sym same)) in
            let few = a.few_rows in
            absurd (omega (arith, few, rows_many, size))
      ]
    ]
