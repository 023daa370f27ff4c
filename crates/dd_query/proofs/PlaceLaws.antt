-- Any 1 to 16 different offsets may be the vectors of a discharging query.
use Rattle.std.proofs.Common.{◌≡◌, ◌≢◌, ℕ, true, List, ap, subst, arith, pos, AllPairs, length, ◌≤◌}
use Rattle.std.specs.{Bool.Decides, Ordering.is_eq, List.list_all}
use Rattle.std.proofs.lemmas.{Bool.Decides.nat_tests, Bool.Decides.Decides-int_eq, Cmp.tied_itself, Grind.common_steps, Int.ints}
use Rattle.std.proofs.lemmas.{List.Elements.All-weaker, List.Sums.AllPass-from_list_all, Map.Made.IsDistinct-from_AllPairs}
use Rattle.dd_lattice.specs.{Place.Place, Order.place_cmp}
use Rattle.dd_lattice.specs.lemmas.InOrderLaws.{place_total, places_equal}
use Rattle.dd_topology.specs.Grid.{is_offset}
use Rattle.dd_boxes.specs.Discharges.{IsVector, AreVectors}

same_place : (p q : Place) → Decides (is_eq (place_cmp p q)) (p ≡ q)
same_place p q = (λ h. places_equal p q (grind arith), λ is. subst (λ (r : Place). is_eq (place_cmp p r) ≡ true) is (ap is_eq (tied_itself place_total p)))

vector_of : (d : ℕ) (v : Place) → is_offset d v ≡ true → IsVector d v
vector_of d v h = grind (arith, common_steps, nat_tests, ints, (Decides-int_eq v.y (pos 0)).1, (Decides-int_eq v.z (pos 0)).1)

pub vectors_of : (d : ℕ) (vs : List Place) → 1 ≤ length vs → length vs ≤ 16 → list_all (is_offset d) vs ≡ true → AllPairs (λ u v. u ≢ v) vs → AreVectors d vs
vectors_of d vs some few short differ = record {
  some = some;
  few = few;
  distinct = IsDistinct-from_AllPairs same_place vs differ;
  each = All-weaker (λ v. is_offset d v ≡ true) (IsVector d) (vector_of d) vs (AllPass-from_list_all (is_offset d) vs short);
}
