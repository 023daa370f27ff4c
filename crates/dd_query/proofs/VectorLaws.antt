-- The vectors of a discharging query stand for different positions if no vector is given twice, each has an entry for each axis, and no entry is over
-- 4 in absolute value.
use Rattle.std.proofs.Common.{◌≡◌, ◌≢◌, ◌<◌, ◌≤◌, ℕ, zero, suc, true, false, List, [], ◌∷◌, ◌++◌, length, map, take, get_or, refl, ap, arith, ℤ, AllPairs, codes, nat_lt}
use Rattle.std.proofs.lemmas.Bool.{or_parts, eqb-true}
use Rattle.std.proofs.lemmas.List.{get_or-map, get_or-take, length-map, length-take-le}
use Rattle.std.proofs.lemmas.List.Elements.{Contains-get_or}
use Rattle.std.specs.{List.All, List.flat_map, Fmt.signed_decimal}
use Rattle.dd_lattice.specs.Place.{Place}
use Rattle.dd_values.specs.lemmas.Members.{Contains-map}
use Rattle.dd_query.specs.{Tree.Entry, Tree.Vector, Vectors.coordinate, Vectors.place_of}
use Rattle.dd_faults.specs.Repeats.{entry_key, vector_key, twice_vector, twice_vectors}
use Rattle.dd_faults.specs.{Commands.entry_value, Commands.has_entries, Commands.is_far, lemmas.Repeats.once}

abbrev vector : List Entry → Vector
vector es = record { entries = es }

-- The key of a vector is a text made from its entries, by which dd_faults finds repeated vectors. Vectors whose entries have the same values have the
-- same key, if no entry is over 4 in absolute value.
same_key : (bytes : List ℕ) (es fs : List Entry) → length es ≡ length fs → ((axis : ℕ) → axis < length es → coordinate bytes (vector es) axis ≡ coordinate bytes (vector fs) axis) →
    is_far bytes (vector es) ≡ false → is_far bytes (vector fs) ≡ false → vector_key bytes (vector es) ≡ vector_key bytes (vector fs)
same_key bytes [] [] long is near nearby = refl
same_key bytes (e ∷ es) (f ∷ fs) long is near nearby =
    let one = or_parts (nat_lt 4 (entry_value bytes e)) (is_far bytes (vector es)) near in
    let other = or_parts (nat_lt 4 (entry_value bytes f)) (is_far bytes (vector fs)) nearby in
    let rest = same_key bytes es fs (omega (arith, long)) (λ axis below. is (suc axis) (omega (arith, below))) one.1 other.1 in
    rw (one.0, other.0, rest) (ap (λ (n : ℤ). signed_decimal n ++ codes "," ++ flat_map (entry_key bytes) fs) (is 0 (omega arith)))
same_key bytes es fs long is near nearby = absurd (omega (arith, long))

same_at : (bytes : List ℕ) (u v : Vector) → place_of bytes u ≡ place_of bytes v → (axis : ℕ) → axis < 3 → coordinate bytes u axis ≡ coordinate bytes v axis
same_at bytes u v is zero below = ap (λ (p : Place). p.x) is
same_at bytes u v is (suc zero) below = ap (λ (p : Place). p.y) is
same_at bytes u v is (suc (suc zero)) below = ap (λ (p : Place). p.z) is
same_at bytes u v is (suc (suc (suc axis))) below = absurd (omega (arith, below))

-- the vector has an entry for each axis, and no entry is over 4 in absolute value
abbrev pub IsGiven : List ℕ → ℕ → Vector → Type 0
IsGiven bytes d v = (has_entries d v ≡ true) × (is_far bytes v ≡ false)

one_key : (bytes : List ℕ) (d : ℕ) (u v : Vector) → d ≤ 3 → IsGiven bytes d u → IsGiven bytes d v → place_of bytes u ≡ place_of bytes v → vector_key bytes u ≡ vector_key bytes v
one_key bytes d u v small one other is =
    same_key bytes u.entries v.entries (omega (arith, eqb-true, one.0, other.0)) (λ axis below. same_at bytes u v is axis (omega (arith, eqb-true, one.0))) one.1 other.1

pub vectors_differ : (bytes : List ℕ) (d : ℕ) (vs : List Vector) → d ≤ 3 → All (IsGiven bytes d) vs → twice_vectors bytes vs ≡ [] → AllPairs (λ p q. p ≢ q) (map (place_of bytes) vs)
vectors_differ bytes d vs small all none = λ i j place less below same.
    let nothing = vector [] in
    let late : j < length vs = omega (arith, length-map vs (place_of bytes), below) in
    let early : i < length vs = omega (arith, late, less) in
    let places : place_of bytes (get_or vs i nothing) ≡ place_of bytes (get_or vs j nothing) = cc (get_or-map (place_of bytes) vs i nothing place early, get_or-map (place_of bytes) vs j nothing place late) in
    let key = one_key bytes d (get_or vs i nothing) (get_or vs j nothing) small (all i nothing early) (all j nothing late) places in
    let before : i < length (take j vs) = omega (arith, less, length-take-le j vs (omega (arith, late))) in
    let there = Contains-map (vector_key bytes) (take j vs) (get_or (take j vs) i nothing) (Contains-get_or (take j vs) i nothing before) in
    once (vector_key bytes) twice_vector vs j nothing none late (rw (← key, ← get_or-take j vs i nothing less) there)
