-- How many instances there are in the expansion that says that two cells have the same symbol.
use Rattle.std.proofs.Common.{◌≡◌, ℕ, zero, suc, ◌+◌, ◌*◌, [], ◌∷◌, map, refl, ap, ◌∙◌, arith, subst}
use Rattle.std.proofs.lemmas.List.FromFn.{sum_by-map-range_with_len_more}
use Rattle.std.specs.List.{sum_by, range_with_len}
use Rattle.dd_lattice.specs.declared.position.Cell.{Cell}
use Rattle.dd_expansion.specs.declared.expanded.Expanded.{TheFolds.fold-roll-Expanded, TheOpen.Expanded-F}
use Rattle.dd_expansion.specs.{Leaves.instances, Leaves.instances_step, Expansion.leaf, Expansion.both_have, Expansion.equal_at}
use Rattle.dd_expansion.specs.lemmas.Layers.{instances_or}
use Rattle.dd_expansion.specs.declared.expanded.Expanded.TheVariants as expanded

pub size_both : (c d : Cell) (s : ℕ) → instances (both_have c d s) ≡ 3
size_both c d s =
    let one : instances (leaf s c) ≡ 1 = fold-roll-Expanded ℕ instances_step (Expanded-F.Leaf c s) in
    let other : instances (leaf s d) ≡ 1 = fold-roll-Expanded ℕ instances_step (Expanded-F.Leaf d s) in
    let both = fold-roll-Expanded ℕ instances_step (Expanded-F.And (leaf s c ∷ leaf s d ∷ [])) in
    omega (arith, one, other, both)

sum_of_threes : (c d : Cell) (n : ℕ) → sum_by instances (map (both_have c d) (range_with_len 0 n)) ≡ 3 * n
sum_of_threes c d zero = refl
sum_of_threes c d (suc n) =
    let more = sum_by-map-range_with_len_more instances (both_have c d) 0 n n (omega arith) in
    let three = size_both c d n in
    let sum : sum_by instances (map (both_have c d) (range_with_len 0 (n + 1))) ≡ 3 * (n + 1) = omega (arith, more, three, sum_of_threes c d n) in
    let P : ℕ → Type 0 = λ m. sum_by instances (map (both_have c d) (range_with_len 0 m)) ≡ 3 * m in
    let next : n + 1 ≡ suc n = omega arith in
    subst P next sum

pub size_equal : (n : ℕ) (c d : Cell) → instances (equal_at n c d) ≡ 1 + 3 * n
size_equal n c d =
    let parts = map (both_have c d) (range_with_len 0 n) in
    ap instances (expanded.rolls-Or parts) ∙ (instances_or parts ∙ ap (λ m. 1 + m) (sum_of_threes c d n))
