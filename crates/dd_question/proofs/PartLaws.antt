-- The test that no vector occurs twice in a list is passed exactly when the vectors are distinct.
use Rattle.std.proofs.Common.{◌≡◌, Bool, true, false, List, [], ◌∷◌, refl}
use Rattle.std.proofs.lemmas.Bool.{and_parts, or_parts}
use Rattle.std.specs.{Prelude.◌↔◌, Prelude.not, List.AllByRecursion, List.IsDistinct, Ordering.is_eq}
use Rattle.dd_lattice.specs.{Place.Place, Order.place_cmp}
use Rattle.dd_question.specs.measuring.Vectors.{is_among, are_apart}
use Rattle.dd_values.specs.lemmas.Booleans.{not_true}

abbrev same : Place → Place → Bool
same p q = is_eq (place_cmp p q)

each_other : (p : Place) (vs : List Place) → is_among p vs ≡ false → AllByRecursion (λ q. same p q ≡ false) vs
each_other p [] h = tt
each_other p (q ∷ qs) h = let both = or_parts (same p q) (is_among p qs) h in (both.0, each_other p qs both.1)

none_among : (p : Place) (vs : List Place) → AllByRecursion (λ q. same p q ≡ false) vs → is_among p vs ≡ false
none_among p [] h = refl
none_among p (q ∷ qs) h = rw (h.0) (none_among p qs h.1)

distinct_from : (vs : List Place) → are_apart vs ≡ true → IsDistinct same vs
unfolding IsDistinct
distinct_from [] h = tt
distinct_from (v ∷ vs) h = let both = and_parts (not (is_among v vs)) (are_apart vs) h in (each_other v vs (not_true (is_among v vs) both.0), distinct_from vs both.1)

apart_from : (vs : List Place) → IsDistinct same vs → are_apart vs ≡ true
unfolding IsDistinct
apart_from [] h = refl
apart_from (v ∷ vs) h = rw (none_among v vs h.0) (apart_from vs h.1)

pub apart_distinct : (vs : List Place) → (are_apart vs ≡ true) ↔ IsDistinct (λ p q. is_eq (place_cmp p q)) vs
apart_distinct vs = (distinct_from vs, apart_from vs)
