-- A cycle and potentials, or ranks, that the exact check confirms.
use Rattle.std.proofs.Common.{◌≡◌, ℕ, ◌*◌, ◌<◌, ◌≤◌, ◌^◌, ◌-ℤ◌, ◌≤ℤ◌, List, length, take, get_or, true, ℤ, pos, unsigned_abs, arith, sym, ap, ◌∙◌, subst}
use Rattle.std.proofs.lemmas.{Bool.leb-true, List.Sums.AllPass-from_list_all}
use Rattle.std.proofs.lemmas.List.{Elements.All-contains, Elements.All-weaker, take_all}
use Rattle.std.specs.{Prelude.nat_le, List.All, List.list_all}
use Rattle.dd_transfer.specs.{Graphs.Transfer, Graphs.weight_at, Certificates.potential_of}
use Rattle.dd_meancycle.specs.declared.{edges.Edge.Edge, rises.Ratio.Ratio}
use Rattle.dd_meancycle.specs.Means.{IsCycle, IsLeastMeanCycle, IsAcyclic, ArePotentials, AreRanks, weight_of}
use Rattle.dd_meancycle.specs.table.{Lists.AreEdges, Lists.ArePotentialsAlong, Lists.AreRanksAlong, Rises.IsReduced}
use Rattle.dd_meancycle.proofs.EdgeLaws.{edge_of, cycle_least, no_cycle}

-- what holds of the first i items of a list, where i is at least its length, holds of all its items
pub all_taken : {X : Type 0} (P : X → Type 0) (xs : List X) (i : ℕ) → length xs ≤ i → All P (take i xs) → All P xs
all_taken P xs i le all = subst (All P) (take_all i xs le) all

-- potentials that pass the test `are_bounded` are at most 2^40 in absolute value
pub all_bounded : (ps : List ℤ) → list_all (λ p. nat_le (unsigned_abs p) (2 ^ 40)) ps ≡ true → All (λ p. unsigned_abs p ≤ 2 ^ 40) ps
all_bounded ps h =
    All-weaker (λ p. nat_le (unsigned_abs p) (2 ^ 40) ≡ true) (λ p. unsigned_abs p ≤ 2 ^ 40) (λ p le. leb-true (unsigned_abs p) (2 ^ 40) le) ps
    (AllPass-from_list_all (λ p. nat_le (unsigned_abs p) (2 ^ 40)) ps h)

pub confirmed_is : (g : Transfer) (edges : List Edge) (cycle : List ℕ) (ps : List ℤ) (whole mean : Ratio) → AreEdges g edges → IsCycle g cycle → whole.weight ≡ weight_of g cycle → whole.length ≡ length cycle →
    length cycle ≤ g.states → IsReduced whole mean → length ps ≡ g.states → All (λ p. unsigned_abs p ≤ 2 ^ 40) ps → ArePotentialsAlong mean.weight mean.length ps edges → IsLeastMeanCycle g mean.weight mean.length cycle ps
confirmed_is g edges cycle ps whole mean are is_cycle weight len short reduced each small risen =
    let pot : ArePotentials g mean.weight mean.length ps = λ u t v h.
    All-contains (λ (e : Edge). (potential_of ps e.to -ℤ potential_of ps e.from) ≤ℤ (pos (mean.length * e.weight) -ℤ pos mean.weight)) edges (record { from = u; to = v; weight = weight_at g t }) risen (edge_of g edges u t v are h) in
    record {
      cycle_is = is_cycle;
      short = short;
      mean = ap (λ (x : ℕ). x * mean.length) (sym weight) ∙ (reduced.same ∙ ap (λ (x : ℕ). mean.weight * x) len);
      lowest = reduced.lowest;
      positive = reduced.positive;
      each = each;
      potentials = pot;
      bounded = λ v lt. small v (pos 0) (omega (arith, lt, each));
      least = cycle_least g mean.weight mean.length ps pot;
    }

-- ranks that fall along each edge of the list show that there is no cycle
pub ranks_are : (g : Transfer) (edges : List Edge) (ranks : List ℕ) → AreEdges g edges → length ranks ≡ g.states → AreRanksAlong ranks edges → IsAcyclic g ranks
ranks_are g edges ranks are each fallen =
    let fall : AreRanks g ranks = λ u t v h.
    All-contains (λ (e : Edge). get_or ranks e.to 0 < get_or ranks e.from 0) edges (record { from = u; to = v; weight = weight_at g t }) fallen (edge_of g edges u t v are h) in
    record { each = each; ranks_fall = fall; none = no_cycle g ranks fall }
