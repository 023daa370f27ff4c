-- The truth of a rule and the value of an automaton at a cell depend only on the symbols of the cells that they read there.
use Rattle.std.proofs.Common.{◌≡◌, ℕ, Bool, true, List, [], ◌∷◌, refl, ap, sym, ◌∙◌, arith, ℤ, pos, ◌+ℤ◌}
use Rattle.std.proofs.lemmas.{Int.ints, Bool.and_parts, Bool.and_from}
use Rattle.std.specs.{Prelude.is_some, List.list_all}
use Rattle.dd_lattice.specs.{Place.Place, Place.place, Place.moved, Cells.cell, Cells.shifted, declared.position.Cell.Cell}
use Rattle.dd_lattice.specs.lemmas.MoveLaws.{place_same}
use Rattle.dd_pattern.specs.Reading.{Look}
use Rattle.dd_expansion.specs.{Terms.origin_at, Truth.are_equal, lemmas.TruthKeeps.truth_keeps, lemmas.TruthAt.at_origin}
use Rattle.dd_formula.specs.{LocalRule.LocalRule, LocalRule.is_true, LocalRule.reads_at, Automata.value, Automata.counted}
use Rattle.dd_formula.specs.{declared.automaton.Automaton.Automaton, lemmas.ValueLaws.value_by_reads, lemmas.ValueLaws.equal_to_some}
use Rattle.dd_values.specs.lemmas.Numbers.{zero_plus}

-- the symbols that the look-up gives to cells relative to v
abbrev pub from_place : Look → Place → Look
from_place look v c = look (shifted v c)

sum_moved : (a b c : ℤ) → ((a +ℤ b) +ℤ c) ≡ a +ℤ (b +ℤ c)
sum_moved a b c = omega (arith, ints)

pub moved_from_origin : (v : Place) → moved (place (pos 0) (pos 0) (pos 0)) v ≡ v
moved_from_origin v = place_same _ _ _ v.x v.y v.z (zero_plus v.x) (zero_plus v.y) (zero_plus v.z)

pub shifted_twice : (u v : Place) (c : Cell) → shifted v (shifted u c) ≡ shifted (moved u v) c
shifted_twice u v c =
    ap (λ p. cell p c.node) (place_same _ _ _ _ _ _ (sum_moved c.position.x u.x v.x) (sum_moved c.position.y u.y v.y) (sum_moved c.position.z u.z v.z))

-- each cell that the rule reads at the node a of the position v has a symbol
abbrev pub reads_given : LocalRule → Look → Place → ℕ → Bool
reads_given r look v a = list_all (λ c. is_some (look (shifted v c))) (reads_at r a)

-- Let two look-ups, one taken relative to u and the other relative to v, agree where the first has symbols. If the first has a
-- symbol at each cell that is read, the rule has the same truth value under both.
pub keeps_at : (r : LocalRule) (less more : Look) (u v : Place) (a : ℕ) →
    ((c : Cell) → is_some (from_place less u c) ≡ true → from_place less u c ≡ from_place more v c) →
    reads_given r less u a ≡ true → is_true r (cell u a) less ≡ is_true r (cell v a) more
keeps_at r less more u v a same h =
    ap (λ c. is_true r c less) (sym (at_origin u a))
    ∙ (truth_keeps r.edges r.formula (origin_at a ∷ []) less more u v same h
    ∙ ap (λ c. is_true r c more) (at_origin v a))

pub list_all_weaker : {X : Type 0} (p q : X → Bool) → ((x : X) → p x ≡ true → q x ≡ true) → (xs : List X) → list_all p xs ≡ true → list_all q xs ≡ true
list_all_weaker p q weaker [] h = refl
list_all_weaker p q weaker (x ∷ xs) h =
    let both = and_parts (p x) (list_all p xs) h in
    and_from (q x) (list_all q xs) (weaker x both.0) (list_all_weaker p q weaker xs both.1)

pub value_keeps : (f : Automaton) (less more : Look) (u v : Place) (a : ℕ) →
    ((c : Cell) → is_some (from_place less u c) ≡ true → from_place less u c ≡ from_place more v c) →
    list_all (λ c. is_some (from_place less u c)) ((counted f).reads a) ≡ true → value f less (cell u a) ≡ value f more (cell v a)
value_keeps f less more u v a same h =
    value_by_reads f a u v less more
    (list_all_weaker (λ c. is_some (from_place less u c)) (λ c. are_equal (less (shifted u c)) (more (shifted v c)))
    (λ c some. equal_to_some (from_place less u c) (from_place more v c) (same c some) some) ((counted f).reads a) h)
