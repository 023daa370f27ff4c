-- The domain with one more vector.
use Rattle.std.proofs.Common.{◌≡◌, ◌<◌, ◌+◌, ℕ, List, [], ◌∷◌, ◌++◌, length, get_or, take, sym, ◌∙◌, ap, subst, inl, inr, ◌⊎◌, arith, ℤ, pos, ◌+ℤ◌}
use Rattle.std.proofs.lemmas.{Int.ints, List.take_more}
use Rattle.std.proofs.lemmas.List.Elements.{Contains-append_left, Contains-push, Contains-push_cases}
use Rattle.std.specs.{Prelude.◌-ℤ◌, List.Contains}
use Rattle.dd_lattice.specs.{Place.Place, Place.moved, Boxes.IsCentred, Regions.IsRegionOf, Regions.IsInEither, Regions.IsMoved}
use Rattle.dd_lattice.specs.lemmas.MoveLaws.{place_same}
use Rattle.dd_values.specs.lemmas.{Members.Contains-nil, Numbers.taken_back}
use Rattle.dd_topology.specs.{Topology.reversed, lemmas.ExtentLaws.back_and_forth}
use Rattle.dd_rows.specs.Domains.{IsInDomain}

forth : (a b : ℤ) → a ≡ ((a +ℤ b) +ℤ (pos 0 -ℤ b))
forth a b = omega (arith, ints)

moved_forth : (p v : Place) → p ≡ moved (moved p v) (reversed v)
moved_forth p v = place_same p.x p.y p.z _ _ _ (forth p.x v.x) (forth p.y v.y) (forth p.z v.z)

-- without vectors, the domain lies in the centred box
centred_from : (d radius : ℕ) (p : Place) → IsInDomain d radius [] p → IsCentred d radius p
centred_from d radius p (inl here) = here
centred_from d radius p (inr there) = absurd (Contains-nil there.0 there.1)

-- the domain of the vectors so far, and the box moved by the opposite of the next vector, lie in the next domain
to_next : (d radius : ℕ) (vs : List Place) (v : Place) (around moved_box all : List Place) → IsRegionOf (IsInDomain d radius []) around →
    IsRegionOf (IsMoved around (reversed v)) moved_box → IsRegionOf (IsInDomain d radius vs) all → (p : Place) →
    Contains all p ⊎ Contains moved_box p → IsInDomain d radius (vs ++ v ∷ []) p
to_next d radius vs v around moved_box all box there before p (inl old) = elim ((before.members p).0 old) [
  | inl here ↦ inl here
  | inr far ↦ inr (far.0, Contains-append_left vs (v ∷ []) far.0 far.1, far.2)
]
to_next d radius vs v around moved_box all box there before p (inr new) =
    let from = (there.members p).0 new in
    let origin = from.0 in
    let centred : IsCentred d radius origin = centred_from d radius origin ((box.members origin).0 from.1) in
    let same : origin ≡ moved p v = sym (back_and_forth origin v) ∙ ap (λ q. moved q v) (sym from.2) in
    inr (v, Contains-push vs v, subst (IsCentred d radius) same centred)

-- each position of the next domain lies in the domain so far or in this moved box
from_next : (d radius : ℕ) (vs : List Place) (v : Place) (around moved_box all : List Place) → IsRegionOf (IsInDomain d radius []) around →
    IsRegionOf (IsMoved around (reversed v)) moved_box → IsRegionOf (IsInDomain d radius vs) all → (p : Place) →
    IsInDomain d radius (vs ++ v ∷ []) p → Contains all p ⊎ Contains moved_box p
from_next d radius vs v around moved_box all box there before p (inl here) = inl ((before.members p).1 (inl here))
from_next d radius vs v around moved_box all box there before p (inr far) = elim (Contains-push_cases vs v far.0 far.1) [
  | inl old ↦ inl ((before.members p).1 (inr (far.0, old, far.2)))
  | inr same ↦
      let centred : IsCentred d radius (moved p v) = subst (λ w. IsCentred d radius (moved p w)) (sym same) far.2 in
      inr ((there.members p).1 (moved p v, (box.members (moved p v)).1 (inl centred), moved_forth p v))
]

pub domain_next : (d radius : ℕ) (vs : List Place) (i : ℕ) (v by : Place) (around moved_box all next : List Place) → i < length vs → v ≡ get_or vs i v → by ≡ reversed v →
    IsRegionOf (IsInDomain d radius []) around → IsRegionOf (IsMoved around by) moved_box → IsRegionOf (IsInDomain d radius (take i vs)) all →
    IsRegionOf (IsInEither all moved_box) next → IsRegionOf (IsInDomain d radius (take (i + 1) vs)) next
domain_next d radius vs i v by around moved_box all next below at is box there before both =
    let more : take (i + 1) vs ≡ take i vs ++ v ∷ [] = take_more vs i v below ∙ ap (λ w. take i vs ++ w ∷ []) (sym at) in
    let there' : IsRegionOf (IsMoved around (reversed v)) moved_box = subst (λ w. IsRegionOf (IsMoved around w) moved_box) is there in
    let made : IsRegionOf (IsInDomain d radius (take i vs ++ v ∷ [])) next = record {
      region = both.region;
      members = λ p. (
        λ h. to_next d radius (take i vs) v around moved_box all box there' before p ((both.members p).0 h),
        λ h. (both.members p).1 (from_next d radius (take i vs) v around moved_box all box there' before p h),
      );
    } in
    subst (λ ws. IsRegionOf (IsInDomain d radius ws) next) (sym more) made
