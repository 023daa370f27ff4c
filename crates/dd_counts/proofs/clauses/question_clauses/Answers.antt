use Rattle.std.proofs.Common.{◌≡◌, ◌+◌, ◌*◌, ◌^◌, ℕ, max, ap, ◌∙◌, arith}
use Rattle.dd_formula.specs.Counts.{cut, place_clauses, largest_region}
use Rattle.dd_formula.specs.lemmas.Cuts.{cut_times_left, cut_times_right}
use Rattle.dd_counts.proofs.clauses.question_clauses.Goals as goal

larger : (l a b m x y : ℕ) → a ≡ cut l x → b ≡ cut l y → m ≡ max a b → m ≡ cut l (max x y)
larger l a b m x y p q r = omega arith

-- the cut-off sum of two counts is the same if the counts are cut off before they are added
last : (l t x g h n : ℕ) → t ≡ cut l x → h ≡ cut l g → n ≡ cut l (t + h) → n ≡ cut l (x + g)
last l t x g h n p q r = omega arith

pub returns : goal.returns
returns c =
    let l = c.args.limit in
    let x = c.args.premise.now in
    let d = x.dimension in
    let dim : c.from-dim.result ≡ d = c.from-dim.ensures ∙ c.dim.ensures in
    let region = largest_region d c.args.radius c.args.period in
    let most : c.max.result ≡ cut l region =
    larger l c.power-in_box.result c.power-in_torus.result c.max.result ((2 * c.args.radius + 1) ^ d) (c.args.period ^ d)
    (c.power-in_box.ensures ∙ ap (λ e. cut l ((2 * c.args.radius + 1) ^ e)) dim) (c.power-in_torus.ensures ∙ ap (λ e. cut l (c.args.period ^ e)) dim) c.max.ensures in
    let product : c.times.result ≡ cut l (region * place_clauses x) =
    c.times.ensures ∙ (ap (λ m. cut l (m * c.place_clauses-place.result)) most
    ∙ (cut_times_left l region c.place_clauses-place.result
    ∙ (ap (λ m. cut l (region * m)) c.place_clauses-place.ensures ∙ cut_times_right l region (place_clauses x)))) in
    λ g is. last l c.times.result (region * place_clauses x) g c.args.goal c.plus.result product is c.plus.ensures
