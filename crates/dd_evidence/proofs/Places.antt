-- An output can hold the place of a cell of the fundamental box.
use Rattle.std.proofs.Common.{◌≡◌, ℕ, ◌+◌, ◌≤◌, ◌<◌, List, [], ◌∷◌, ◌++◌, length, take, ap, sym, subst, ◌∙◌, arith, ℤ, pos, unsigned_abs, length-append}
use Rattle.std.proofs.lemmas.List.{length-take-le}
use Rattle.std.proofs.lemmas.List.Elements.{All-nil, All-cons, All-append, All-take}
use Rattle.std.specs.List.{All}
use Rattle.dd_lattice.specs.{declared.position.Cell.Cell, Place.Place}
use Rattle.dd_pattern.specs.{Periods.residue, Periods.unsheared, Tile.Tile, Tile.IsPeriodic, Tile.IsInBox, lemmas.Residues.residue_below}
use Rattle.dd_pattern.specs.lemmas.TileSizes.{sizes_of}
use Rattle.dd_formula.specs.{LocalRule.LocalRule, LocalRule.IsRule, Living.Fits}
use Rattle.dd_certificate.specs.Bounds.{IsWritable, IsWritableSigned}
use Rattle.dd_evidence.specs.Cells.{written_cell, IsOutside}
use Rattle.dd_certificate.specs.declared.answer.Answer.TheVariants as answer

-- an output can hold a residue modulo n, where n is from 1 to 65,536; each coordinate of a cell in the fundamental box is such a residue
coordinate_fits : (z w : ℤ) (n : ℕ) → 0 < n → n ≤ 65536 → pos (residue w n) ≡ z → IsWritableSigned z
coordinate_fits z w n some few is =
    let below : residue w n < n = residue_below w n some in
    let same : residue w n ≡ unsigned_abs z = ap unsigned_abs is in
    omega (arith, below, same, few)

place_writable : (d : ℕ) (t : Tile) (c : Cell) → 1 ≤ d → d ≤ 3 → IsPeriodic t → t.nodes ≤ 65536 → IsInBox t c → IsWritable (answer.Outside (written_cell d c))
place_writable d t c some most periodic few at =
    let all = c.position.x ∷ c.position.y ∷ c.position.z ∷ [] in
    let p = t.periods in
    let are = periodic.tile.periods in
    let sizes = sizes_of t periodic in
    let on_x : IsWritableSigned c.position.x = coordinate_fits c.position.x (unsheared p c.position) p.x are.x_some sizes.x_small (ap (λ (q : Place). q.x) at.base) in
    let on_y : IsWritableSigned c.position.y = coordinate_fits c.position.y c.position.y p.y are.y_some sizes.y_small (ap (λ (q : Place). q.y) at.base) in
    let on_z : IsWritableSigned c.position.z = coordinate_fits c.position.z c.position.z p.z are.z_some sizes.z_small (ap (λ (q : Place). q.z) at.base) in
    let node : IsWritableSigned (pos c.node) = (let below = at.node in omega (arith, below, few)) in
    let each : All IsWritableSigned all = All-cons IsWritableSigned c.position.x (c.position.y ∷ c.position.z ∷ []) on_x
    (All-cons IsWritableSigned c.position.y (c.position.z ∷ []) on_y (All-cons IsWritableSigned c.position.z [] on_z (All-nil IsWritableSigned))) in
    let many : length (take d all ++ pos c.node ∷ []) ≡ d + 1 =
    length-append (take d all) (pos c.node ∷ []) ∙ (let those : length (take d all) ≡ d = length-take-le d all most in omega (arith, those)) in (
      omega (arith, many, some),
      omega (arith, many, most),
      All-append IsWritableSigned (take d all) (pos c.node ∷ []) (All-take IsWritableSigned d all each)
          (All-cons IsWritableSigned (pos c.node) [] node (All-nil IsWritableSigned)),
    )

pub places_fit : (x : LocalRule) (t : Tile) (place : List ℤ) → IsRule x → IsPeriodic t → Fits x t → IsOutside x t place → IsWritable (answer.Outside place)
places_fit x t place rule periodic fits at =
    let same : t.nodes ≡ x.nodes = fits.nodes in
    let few : x.nodes ≤ 4 = rule.nodes.1 in
    subst (λ (p : List ℤ). IsWritable (answer.Outside p)) (sym at.2)
    (place_writable x.dimension t at.0 rule.dimension.0 rule.dimension.1 periodic (omega (arith, same, few)) at.1.within)
