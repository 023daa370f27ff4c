use Rattle.std.proofs.Common.{◌≡◌, true, List, [], ◌∷◌, ◌++◌, length, take, get_or, ℤ, pos, ap, sym, subst, ◌∙◌, arith}
use Rattle.std.proofs.lemmas.Bool.{false≢true}
use Rattle.std.specs.Prelude.{◌↔◌}
use Rattle.dd_verify.proofs.{PlaceLaws.place_decides, PlaceLaws.place_last, Deciding.nothing_holds}
use Rattle.dd_verify.proofs.places.is_place.Goals as goal

pub returns-then-not-is_node : goal.returns-then-not-is_node
returns-then-not-is_node c =
    let p = c.args.cell.now.position in
    nothing_holds _
    (λ whole. false≢true (sym c.if-not-is_node.true
    ∙ c.is_node.ensures.1 (place_last c.args.dim c.args.cell.now.node (p.x ∷ p.y ∷ p.z ∷ []) c.args.place.now c.requires (pos 0) whole)))

pub returns : goal.returns
returns c =
    let place = c.args.place.now in
    let d = c.args.dim in
    let n = c.args.cell.now.node in
    let xs = c.coordinates-coordinates.result in
    let many : length xs ≡ 3 = ap length c.coordinates-coordinates.ensures in
    let last : get_or place d (pos 0) ≡ pos n = c.is_node.ensures.0 c.if-not-is_node.false in
    subst (λ (ys : List ℤ). (c.eq.result ≡ true) ↔ (place ≡ take d ys ++ pos n ∷ [])) c.coordinates-coordinates.ensures
    (place_decides d n xs place (pos 0) c.eq.result (omega (arith, many, c.requires)) c.if-place-count.false last c.eq.ensures)
