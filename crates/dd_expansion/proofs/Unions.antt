-- The union of several balls, made ball by ball.
use Rattle.std.proofs.Common.{◌≡◌, ◌+◌, ◌<◌, ◌≤◌, ℕ, List, [], ◌∷◌, ◌++◌, length, take, get_or, ap, sym, ◌∙◌, subst, inl, inr}
use Rattle.std.proofs.lemmas.List.{take_more, take_all, flat_map_more}
use Rattle.std.proofs.lemmas.List.Elements.{All-append, All-contains, Contains-append_left, Contains-append_right, Contains-append_cases}
use Rattle.std.specs.{Prelude.slice_get, List.Sorted.IsStrictlySortedBy}
use Rattle.dd_lattice.specs.{Order.cell_cmp, InOrder.in_order, InOrder.HaveSameCells, declared.position.Cell.Cell}
use Rattle.dd_lattice.specs.lemmas.InOrderLaws.{in_order_members}
use Rattle.dd_values.specs.lemmas.Members.{All-from_contains}
use Rattle.dd_topology.specs.{declared.edge.Edge.Edge, Topology.extent, lemmas.OrderLaws.is-in_order}
use Rattle.dd_expansion.specs.{declared.formulas.BallOf.BallOf, Terms.ball_round, Terms.balls_of, expanding.Near.AreNear}

-- if ps has the same cells as bs, and cs the same as ds, then ps ++ cs has the same cells as bs ++ ds
joined : (ps bs cs ds : List Cell) → HaveSameCells ps bs → HaveSameCells cs ds → HaveSameCells (ps ++ cs) (bs ++ ds)
joined ps bs cs ds same same' d = (
  λ h. elim (Contains-append_cases ps cs d h) [ inl a ↦ Contains-append_left bs ds d ((same d).0 a) | inr c ↦ Contains-append_right bs ds d ((same' d).0 c) ],
  λ h. elim (Contains-append_cases bs ds d h) [ inl b ↦ Contains-append_left ps cs d ((same d).1 b) | inr e ↦ Contains-append_right ps cs d ((same' d).1 e) ],
)

-- if a list has the cells of the first i balls, and those of the next ball are appended, it has the cells of the first i + 1 balls
pub union_more : (es : List Edge) (env : List Cell) (bs : List BallOf) (i : ℕ) (d : BallOf) (cells next now : List Cell) → i < length bs →
    HaveSameCells cells (balls_of es env (take i bs)) → next ≡ in_order (ball_round es (get_or bs i d).radius (slice_get env (get_or bs i d).variable)) → now ≡ cells ++ next →
    HaveSameCells now (balls_of es env (take (i + 1) bs))
union_more es env bs i d cells next now within same made joins =
    let b = get_or bs i d in
    let round : BallOf → List Cell = λ b. ball_round es b.radius (slice_get env b.variable) in
    let taken : take (i + 1) bs ≡ take i bs ++ b ∷ [] = take_more bs i d within in
    let more : balls_of es env (take i bs) ++ round b ≡ balls_of es env (take (i + 1) bs) = flat_map_more round [] (take i bs) b ∙ ap (balls_of es env) (sym taken) in
    subst (HaveSameCells now) more (subst (λ l. HaveSameCells l (balls_of es env (take i bs) ++ round b)) (sym joins)
    (joined cells (balls_of es env (take i bs)) next (round b) same (subst (λ l. HaveSameCells l (round b)) (sym made) (in_order_members (round b)))))

pub near_more : (n : ℕ) (cells next now : List Cell) → AreNear n cells → AreNear n next → now ≡ cells ++ next → AreNear n now
near_more n cells next now near near' joins = subst (AreNear n) (sym joins) (All-append (λ c. extent c.position ≤ n) cells next near near')

-- a list with the cells of all balls, once put in cell order, is the union of the balls in cell order
pub union_ordered : (es : List Edge) (env : List Cell) (bs : List BallOf) (i : ℕ) (cells ordered : List Cell) → length bs ≤ i → HaveSameCells cells (balls_of es env (take i bs)) →
    HaveSameCells ordered cells → IsStrictlySortedBy cell_cmp ordered → ordered ≡ in_order (balls_of es env bs)
union_ordered es env bs i cells ordered whole same members up =
    let all : HaveSameCells cells (balls_of es env bs) = subst (λ l. HaveSameCells cells (balls_of es env l)) (take_all i bs whole) same in
    is-in_order ordered (balls_of es env bs) up (λ d there. (all d).0 ((members d).0 there)) (λ d there. (members d).1 ((all d).1 there))

pub near_ordered : (n : ℕ) (cells ordered : List Cell) → AreNear n cells → HaveSameCells ordered cells → AreNear n ordered
near_ordered n cells ordered near members =
    All-from_contains (λ c. extent c.position ≤ n) ordered (λ d there. All-contains (λ c. extent c.position ≤ n) cells d near ((members d).0 there))
