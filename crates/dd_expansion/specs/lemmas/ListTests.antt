-- Tests of lists, from the tests of their elements.
use Rattle.std.proofs.Common.{◌≡◌, List, [], ◌∷◌, map, Bool, true, false, refl, ap, sym, ◌∙◌}
use Rattle.std.proofs.lemmas.{Bool.and_parts, Bool.and_from, List.Folds.list_all-append}
use Rattle.std.specs.{Prelude.◌&&◌, Prelude.◌||◌, Prelude.not, List.list_all, List.list_any, List.flat_map}
use Rattle.dd_lattice.specs.{InOrder.in_order, declared.position.Cell.Cell, lemmas.InOrderLaws.list_all-in_order}

or_by_and : (a b c : Bool) → b ≡ not c → (a || b) ≡ not (not a && c)
or_by_and true b c h = refl
or_by_and false b c h = h

module _ {X : Type 0} where
  pub list_all-alike : (p q : X → Bool) → ((x : X) → p x ≡ q x) → (xs : List X) → list_all p xs ≡ list_all q xs
  list_all-alike p q same [] = refl
  list_all-alike p q same (x ∷ xs) = rw (same x, list_all-alike p q same xs)

  pub list_any-alike : (p q : X → Bool) → ((x : X) → p x ≡ q x) → (xs : List X) → list_any p xs ≡ list_any q xs
  list_any-alike p q same [] = refl
  list_any-alike p q same (x ∷ xs) = rw (same x, list_any-alike p q same xs)

  pub any_by_all : (p : X → Bool) (xs : List X) → list_any p xs ≡ not (list_all (λ x. not (p x)) xs)
  any_by_all p [] = refl
  any_by_all p (x ∷ xs) = or_by_and (p x) (list_any p xs) (list_all (λ y. not (p y)) xs) (any_by_all p xs)

  pub all_pass : (p : X → Bool) → ((x : X) → p x ≡ true) → (xs : List X) → list_all p xs ≡ true
  all_pass p each [] = refl
  all_pass p each (x ∷ xs) = rw (each x, all_pass p each xs)

  pub list_all-weaker : (p q : X → Bool) → ((x : X) → p x ≡ true → q x ≡ true) → (xs : List X) → list_all p xs ≡ true → list_all q xs ≡ true
  list_all-weaker p q each [] h = refl
  list_all-weaker p q each (x ∷ xs) h =
      let both = and_parts (p x) (list_all p xs) h in and_from (q x) (list_all q xs) (each x both.0) (list_all-weaker p q each xs both.1)

  pub none_passes : (p : X → Bool) → ((x : X) → p x ≡ false) → (xs : List X) → list_any p xs ≡ false
  none_passes p each [] = refl
  none_passes p each (x ∷ xs) = rw (each x, none_passes p each xs)

module _ {X Y : Type 0} where
  pub list_any-map : (p : Y → Bool) (h : X → Y) (xs : List X) → list_any p (map h xs) ≡ list_any (λ x. p (h x)) xs
  list_any-map p h [] = refl
  list_any-map p h (x ∷ xs) = ap (λ b. p (h x) || b) (list_any-map p h xs)

  pub list_all-flat_map : (p : Y → Bool) (f : X → List Y) (xs : List X) → list_all p (flat_map f xs) ≡ list_all (λ x. list_all p (f x)) xs
  list_all-flat_map p f [] = refl
  list_all-flat_map p f (x ∷ xs) = list_all-append p (f x) (flat_map f xs) ∙ ap (λ b. list_all p (f x) && b) (list_all-flat_map p f xs)

pub list_any-in_order : (p : Cell → Bool) (cs : List Cell) → list_any p (in_order cs) ≡ list_any p cs
list_any-in_order p cs = any_by_all p (in_order cs) ∙ (ap not (list_all-in_order (λ c. not (p c)) cs) ∙ sym (any_by_all p cs))
