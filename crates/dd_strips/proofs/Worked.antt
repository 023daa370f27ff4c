-- Worked examples: the definitions on small rules, looks, configurations and lists of potentials.
use Rattle.std.proofs.Common.{◌≡◌, ◌+◌, ◌%◌, true, false, [], ◌∷◌, pos, negsuc, unsigned_abs, Some, refl, ap, arith}
use Rattle.dd_lattice.specs.{Place.place, Cells.cell, declared.position.Cell.Cell}
use Rattle.dd_pattern.specs.{Reading.Look, Tile.Tile, Tile.tile, Tile.tile_look}
use Rattle.dd_expansion.specs.declared.formulas.Formula.{Formula, roll-Formula}
use Rattle.dd_expansion.specs.declared.formulas.Formula.{TheFolds.fold-roll-Formula, TheOpen.Formula-F}
use Rattle.dd_expansion.specs.Truth.{Truth, truth_step}
use Rattle.dd_formula.specs.LocalRule.{LocalRule, is_true}
use Rattle.dd_strip.specs.Strips.{strip_of}
use Rattle.dd_strips.specs.{Strips.LivesNowhere, Strips.is_slice_cell, Strips.slices_weight, Strips.tile_weight, Claims.spread_of}

-- a one-dimensional rule over the symbols 0 and 1
abbrev line : Formula → LocalRule
line f = record { dimension = 1; nodes = 1; symbols = 2; allowed = (true ∷ true ∷ []) ∷ []; edges = []; formula = f }

-- the three slices from -1 on: x is -1, 0 or 1
in_slices : is_slice_cell (line (roll-Formula (Formula-F.And []))) (negsuc 0) 3 (cell (place (pos 1) (pos 0) (pos 0)) 0) ≡ true
in_slices = refl

past_slices : is_slice_cell (line (roll-Formula (Formula-F.And []))) (negsuc 0) 3 (cell (place (pos 2) (pos 0) (pos 0)) 0) ≡ false
past_slices = refl

-- the symbol 1 at each even x and 0 at each odd one: of the five slices from -2 on, three have a 1
abbrev alternating : Look
alternating c = Some ((unsigned_abs c.position.x + 1) % 2)

three_of_five : slices_weight (strip_of 1 1 1) (0 ∷ 2 ∷ []) alternating (negsuc 1) 5 ≡ 6
three_of_five = refl

spread_is : spread_of (pos 1 ∷ negsuc 1 ∷ pos 3 ∷ pos 0 ∷ []) ≡ 5
spread_is = refl

-- the configuration 0 1 0 1 .. on the strip whose slices have one position
abbrev two : Tile
two = tile 1 (record { x = 2; y = 1; z = 1; shear = 0 }) 1 (0 ∷ 1 ∷ [])

two_weighs : tile_weight (3 ∷ 4 ∷ []) two ≡ 7
two_weighs = refl

-- a rule that is true at no cell
never_true : (look : Look) (c : Cell) → is_true (line (roll-Formula (Formula-F.Or []))) c look ≡ false
never_true look c = ap (λ (t : Truth). t (c ∷ []) look) (fold-roll-Formula Truth (truth_step []) (Formula-F.Or []))

-- so, for this rule, no configuration lives on the strip whose slices have one position
none_lives : LivesNowhere (line (roll-Formula (Formula-F.Or []))) (strip_of 1 1 1)
none_lives t on =
    let false_there = never_true (tile_look t) (cell (place (pos 0) (pos 0) (pos 0)) 0) in
    let true_there = on.lives (place (pos 0) (pos 0) (pos 0)) 0 refl (omega arith) in
    absurd (cc)
