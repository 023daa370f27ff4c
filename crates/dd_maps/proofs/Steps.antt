-- Loops over the numbers from 0 on, which push an item for each number that passes a test.
use Rattle.std.proofs.Common.{◌≡◌, ℕ, ◌+◌, Bool, true, false, List, [], ◌∷◌, ◌++◌, map, ap, sym, ◌∙◌}
use Rattle.std.specs.List.{filter, range_with_len}
use Rattle.std.proofs.lemmas.List.{map-append, append-nil, append_assoc}
use Rattle.dd_formula.specs.lemmas.Ranges.{filter_push}

-- one step: the list so far has the items of `front`, and then one item for each number below n that passes
module _ {X : Type 0} (front : List X) (g : ℕ → X) (q : ℕ → Bool) (n : ℕ) (old : List X) (so_far : old ≡ front ++ map g (filter q (range_with_len 0 n))) where
  pub passed : (new : List X) (x : X) → q n ≡ true → x ≡ g n → new ≡ old ++ x ∷ [] → new ≡ front ++ map g (filter q (range_with_len 0 (n + 1)))
  passed new x here made is =
      is
      ∙ (ap (λ y. old ++ y ∷ []) made
      ∙ (ap (λ xs. xs ++ g n ∷ []) so_far
      ∙ (append_assoc front (map g (filter q (range_with_len 0 n))) (g n ∷ [])
      ∙ ap (λ xs. front ++ xs) (sym (map-append g (filter q (range_with_len 0 n)) (n ∷ [])) ∙ ap (map g) (sym (filter_push q n true here))))))

  pub failed : (new : List X) → q n ≡ false → new ≡ old → new ≡ front ++ map g (filter q (range_with_len 0 (n + 1)))
  failed new here is =
      is
      ∙ (so_far
      ∙ ap (λ xs. front ++ map g xs) (sym (filter_push q n false here ∙ append-nil (filter q (range_with_len 0 n)))))

-- the list after the last step
pub whole : {X : Type 0} (front : List X) (g : ℕ → X) (q : ℕ → Bool) (n m : ℕ) (parts : List X) → parts ≡ front ++ map g (filter q (range_with_len 0 n)) → n ≡ m →
    parts ≡ front ++ map g (filter q (range_with_len 0 m))
whole front g q n m parts so_far same = so_far ∙ ap (λ k. front ++ map g (filter q (range_with_len 0 k))) same
