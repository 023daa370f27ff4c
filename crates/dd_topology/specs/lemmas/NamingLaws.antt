-- Names that are stored as the keys of a set: a key k spells the name f k, a list of bytes. A search for a name gives the same result among the keys
-- as among the names that they spell.
use Rattle.std.proofs.Common.{◌≡◌, ℕ, List, [], ◌∷◌, true, false, map, length, Some, Contains, refl, ap, sym, ◌∙◌, true≢false, ◌++◌}
use Rattle.std.proofs.lemmas.{List.map-append, List.Quantifiers.position-Some, Map.Made.AllPairs-from_IsDistinct}
use Rattle.std.proofs.lemmas.{Map.Views.list_any-from_Contains, Map.Views.Contains-from_any, Option.slice_get_read}
use Rattle.std.proofs.lemmas.Slice.Eq.{bytes_eq-Decides}
use Rattle.std.specs.{Prelude.position, Prelude.bytes_eq, Prelude.slice_get, List.list_any, List.IsDistinct, List.AllByRecursion}
use Rattle.std.specs.Cmp.Lexicographic.{nat_list_eq_equiv}
use Rattle.indexmap.specs.IndexSet.{insert_key}
use Rattle.dd_topology.specs.Naming.{AreDistinct, number_of}
use Rattle.dd_topology.specs.lemmas.ListLaws.{list_any-map, position-map, insert_key-new}

module _ {K : Type 0} (f : K → List ℕ) where
  apart-map : (k : K) (ks : List K) → AllByRecursion (λ j. bytes_eq (f k) (f j) ≡ false) ks → AllByRecursion (λ name. bytes_eq (f k) name ≡ false) (map f ks)
  apart-map k [] h = tt
  apart-map k (j ∷ js) h = (h.0, apart-map k js h.1)

  distinct-map : (ks : List K) → IsDistinct (λ a b. bytes_eq (f a) (f b)) ks → IsDistinct bytes_eq (map f ks)
  unfolding IsDistinct
  distinct-map [] h = tt
  distinct-map (k ∷ ks) h = (apart-map k ks h.0, distinct-map ks h.1)

  pub number_of-map : (name : List ℕ) (ks : List K) → number_of (map f ks) name ≡ position (λ k. bytes_eq name (f k)) ks
  number_of-map name ks = position-map f (bytes_eq name) ks

  pub known : (name : List ℕ) (ks : List K) → list_any (λ k. bytes_eq name (f k)) ks ≡ true → Contains (map f ks) name
  known name ks h = Contains-from_any (λ x y. (bytes_eq-Decides x y).0) name (map f ks) (list_any-map f (bytes_eq name) ks ∙ h)

  pub unknown : (name : List ℕ) (ks : List K) → list_any (λ k. bytes_eq name (f k)) ks ≡ false → ¬ Contains (map f ks) name
  unknown name ks h there = true≢false (sym (list_any-from_Contains nat_list_eq_equiv name (map f ks) there) ∙ (list_any-map f (bytes_eq name) ks ∙ h))

  -- inserting a new key appends its name to the names
  pub map-insert_key : (k : K) (ks : List K) → list_any (λ j. bytes_eq (f k) (f j)) ks ≡ false → map f (insert_key (λ a b. bytes_eq (f a) (f b)) ks k) ≡ map f ks ++ f k ∷ []
  map-insert_key k ks h = ap (map f) (insert_key-new (λ a b. bytes_eq (f a) (f b)) k ks h) ∙ map-append f ks (k ∷ [])

  pub are_distinct : (ks : List K) → IsDistinct (λ a b. bytes_eq (f a) (f b)) ks → AreDistinct (map f ks)
  are_distinct ks h = AllPairs-from_IsDistinct bytes_eq-Decides (map f ks) (distinct-map ks h)

-- if a name has the number i, it is the name at index i
pub slice_get-number_of : (names : List (List ℕ)) (name : List ℕ) (i : ℕ) → number_of names name ≡ Some i → slice_get names i ≡ Some name
slice_get-number_of names name i h =
    let at = position-Some (bytes_eq name) names i name h in
    slice_get_read names (length names) i name refl at.0 ((bytes_eq-Decides _ _).0 at.1)
