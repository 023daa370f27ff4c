-- The place of a cell, as an answer writes it: the coordinates of its position, then its node.
use Rattle.std.proofs.Common.{◌≡◌, ℕ, ◌+◌, ◌≤◌, Bool, true, List, [], ◌∷◌, ◌++◌, length, take, get_or, ap, sym, ◌∙◌, arith, ℤ, pos, length-append}
use Rattle.std.proofs.lemmas.{Bool.Decides.Decides-int_eq, Slice.Eq.slice_eq-Decides}
use Rattle.std.proofs.lemmas.List.{take_all, take_more, take-append-le, append_cancel_left, length-take-le}
use Rattle.std.specs.{Prelude.◌↔◌, Ordering.int_eq}
use lib.Pointwise.{pointwise}
use Rattle.dd_formula.specs.{LocalRule.LocalRule, Living.IsFirstFalse, lemmas.FirstCells.first_cell}
use Rattle.dd_lattice.specs.declared.position.Cell.{Cell}
use Rattle.dd_pattern.specs.Tile.{Tile}
use Rattle.dd_evidence.specs.Cells.{written_cell, IsOutside}

-- when `place` consists of the first d coordinates of xs, followed by n
module _ (d n : ℕ) (xs place : List ℤ) (few : d ≤ length xs) where
  pub place_length : place ≡ take d xs ++ pos n ∷ [] → length place ≡ d + 1
  place_length is =
      ap length is ∙ (length-append (take d xs) (pos n ∷ []) ∙ (let those : length (take d xs) ≡ d = length-take-le d xs few in omega (arith, those)))

  pub place_front : place ≡ take d xs ++ pos n ∷ [] → take d place ≡ take d xs
  place_front is =
      let those : length (take d xs) ≡ d = length-take-le d xs few in
      ap (take d) is
      ∙ (take-append-le d (take d xs) (pos n ∷ []) (omega (arith, those)) ∙ take_all d (take d xs) (omega (arith, those)))

  split : (z : ℤ) → length place ≡ d + 1 → place ≡ take d place ++ get_or place d z ∷ []
  split z many = sym (take_all (d + 1) place (omega (arith, many))) ∙ take_more place d z (omega (arith, many))

  pub place_last : (z : ℤ) → place ≡ take d xs ++ pos n ∷ [] → get_or place d z ≡ pos n
  place_last z is =
      let parts : take d xs ++ get_or place d z ∷ [] ≡ take d xs ++ pos n ∷ [] =
      sym (ap (λ front. front ++ get_or place d z ∷ []) (place_front is)) ∙ (sym (split z (place_length is)) ∙ is) in
      let last : get_or place d z ∷ [] ≡ pos n ∷ [] = append_cancel_left (take d xs) (get_or place d z ∷ []) (pos n ∷ []) parts in
      cc last

  pub place_whole : (z : ℤ) → length place ≡ d + 1 → get_or place d z ≡ pos n → take d place ≡ take d xs → place ≡ take d xs ++ pos n ∷ []
  place_whole z many last front =
      split z many ∙ (ap (λ f. f ++ get_or place d z ∷ []) front ∙ ap (λ l. take d xs ++ l ∷ []) last)

-- if c is the first cell of the fundamental box at which the rule is false, a test of whether `place` is the place of c decides whether OUT with
-- `place` is right
pub outside_at : (x : LocalRule) (t : Tile) (c : Cell) (d : ℕ) (place : List ℤ) (b : Bool) → d ≡ x.dimension → IsFirstFalse x t c →
    (b ≡ true) ↔ (place ≡ written_cell d c) → (b ≡ true) ↔ IsOutside x t place
outside_at x t c d place b same first told = (
  λ h. (c, first, told.0 h ∙ ap (λ k. written_cell k c) same),
  λ at. told.1 (at.2 ∙ (ap (written_cell x.dimension) (first_cell x t at.0 c at.1 first) ∙ ap (λ k. written_cell k c) (sym same))),
)

pub place_decides : (d n : ℕ) (xs place : List ℤ) (z : ℤ) (b : Bool) → d ≤ length xs → length place ≡ d + 1 → get_or place d z ≡ pos n →
    b ≡ pointwise int_eq (take d place) (take d xs) → (b ≡ true) ↔ (place ≡ take d xs ++ pos n ∷ [])
place_decides d n xs place z b few many last is =
    let told = slice_eq-Decides Decides-int_eq (take d place) (take d xs) b is in
    (λ h. place_whole d n xs place few z many last (told.0 h), λ whole. told.1 (place_front d n xs place few whole))
