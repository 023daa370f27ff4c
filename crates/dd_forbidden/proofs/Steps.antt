-- One turn of the search's loops over the symbols.
use Rattle.std.proofs.Common.{◌≡◌, ◌+◌, ℕ, suc, List, ◌++◌, map, sym, ◌∙◌, ap, arith}
use Rattle.std.specs.List.{flat_map, range_with_len}
use Rattle.std.proofs.lemmas.List.{append_assoc, map-append}
use Rattle.dd_pattern.specs.Filling.{Filled}
use Rattle.dd_values.specs.lemmas.Lists.{range_more}

-- the list after one more symbol's branch has been searched
pub one_more : (g : List ℕ → Filled) (f : ℕ → List (List ℕ)) (start found next : List Filled) (new : List (List ℕ)) (n : ℕ) →
    found ≡ start ++ map g (flat_map f (range_with_len 0 n)) → next ≡ found ++ map g new → f n ≡ new → next ≡ start ++ map g (flat_map f (range_with_len 0 (n + 1)))
one_more g f start found next new n before now is =
    let old = flat_map f (range_with_len 0 n) in
    let index : n + 1 ≡ suc n = omega arith in
    let more : flat_map f (range_with_len 0 (n + 1)) ≡ old ++ new =
    ap (λ m. flat_map f (range_with_len 0 m)) index ∙ (range_more f 0 n ∙ (ap (λ i. old ++ f i) (let none : 0 + n ≡ n = omega arith in none) ∙ ap (λ xs. old ++ xs) is)) in
    now ∙ (ap (λ xs. xs ++ map g new) before
    ∙ (append_assoc start (map g old) (map g new) ∙ ap (λ xs. start ++ xs) (sym (map-append g old new) ∙ ap (map g) (sym more))))
