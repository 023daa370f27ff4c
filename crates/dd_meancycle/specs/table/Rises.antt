-- What is read off the table of least weights. The levels of the table are its rows, one for each length. Let `last` be the greatest length in the
-- table. A longest walk is a walk of `last` edges. A rise of a state goes from its entry in a level k below the last level to its entry in the last
-- level; both entries are weights. The mean of the rise is the second entry less the first, divided by last - k.
use Rattle.std.specs.Prelude.{◌≡◌, ℕ, suc, ◌∷◌, ◌+◌, ◌-◌, ◌*◌, ◌<◌, ◌≤◌, List, [], length, Option, Some, None, slice_index_or, ◌⊎◌, Bool, true, false, ◌^◌, is_some, ◌&&◌, ◌==◌}
use Rattle.std.specs.{List.Contains, Int.IsGcd}
use Rattle.dd_meancycle.specs.declared.{edges.Edge.Edge, rises.Ratio.Ratio, rises.Steep.Steep}
use Rattle.dd_meancycle.specs.table.Levels.{at, level_weight_at, least}
use Rattle.dd_meancycle.specs.table.Walks.{IsWalk, AreAmong, edges_weight}

-- v is one of the states of each level up to the last, and has the weight 0 in the first
pub record IsTabulated (levels : List (List (Option ℕ))) (last v : ℕ) : Type 0 where
  pub levels_to : last < length levels
  pub within : (k : ℕ) → k ≤ last → v < length (slice_index_or levels k [])
  pub start : level_weight_at levels 0 v ≡ Some 0

-- weight / run is the greatest mean of a rise of the state v
pub record IsSteepest (levels : List (List (Option ℕ))) (last v weight run : ℕ) : Type 0 where
  pub end : ℕ
  pub ends : level_weight_at levels last v ≡ Some end
  pub above : (k before : ℕ) → k < last → level_weight_at levels k v ≡ Some before → end * run ≤ before * run + weight * (last - k)
  pub at_length : ℕ
  pub at_weight : ℕ
  pub shorter : at_length < last
  pub from : level_weight_at levels at_length v ≡ Some at_weight
  pub rise : at_weight + weight ≡ end
  pub run_is : run + at_length ≡ last

-- p is the least of l * b + m * (last - k) over all k < last for which the entry of v in the level k is a weight; b is this weight
pub record IsPotential (levels : List (List (Option ℕ))) (last v m l p : ℕ) : Type 0 where
  pub least : (k before : ℕ) → k < last → level_weight_at levels k v ≡ Some before → p ≤ l * before + m * (last - k)
  pub at_length : ℕ
  pub at_weight : ℕ
  pub shorter : at_length < last
  pub from : level_weight_at levels at_length v ≡ Some at_weight
  pub is : p ≡ l * at_weight + m * (last - at_length)

-- r is the greater of two means: `best`, and the mean of the rise from b to `end` over `run` edges; r is `best` if there is no b
abbrev pub IsSteeper : Ratio → ℕ → Option ℕ → ℕ → Ratio → Type 0
IsSteeper best end None run r = r ≡ best
IsSteeper best end (Some b) run r = (end * r.length ≤ b * r.length + r.weight * run) × ((r ≡ best) ⊎ ((b + r.weight ≡ end) × (r.length ≡ run) × (best.weight * run < r.weight * best.length)))

-- r is the smaller of `best` and l * b + m * run, where the weight b is `run` levels below the last; r is `best` if there is no b
abbrev pub IsLesser : ℕ → Option ℕ → ℕ → ℕ → ℕ → ℕ → Type 0
IsLesser best None m l run r = r ≡ best
IsLesser best (Some b) m l run r = (r ≤ best) × (r ≤ l * b + m * run) × ((r ≡ best) ⊎ (r ≡ l * b + m * run))

-- whether the entry is a weight, and this weight plus `weight` is `end`; `weight` is the weight of an edge
abbrev pub arrives : Option ℕ → ℕ → ℕ → Bool
arrives None weight end = false
arrives (Some a) weight end = (a + weight) == end

-- whether a lightest walk of the row `before` to the source of the edge e, followed by e, leads to the state and has the weight `weight`
abbrev pub is_back : List (Option ℕ) → ℕ → ℕ → Edge → Bool
is_back before state weight e = (e.to == state) && arrives (at before e.from) e.weight weight

-- Compares two states by the greatest mean of their rises: the state in `best`, and `state`, for which this mean is h. The result r is the one with
-- the smaller mean, and `best` if the means are equal. If there is no h, r is `best`; else, if there is no `best`, r is `state`.
abbrev pub IsGentler : Option Steep → ℕ → Option Ratio → Option Steep → Type 0
IsGentler best state None r = r ≡ best
IsGentler None state (Some h) r = r ≡ Some (record { state = state; mean = h })
IsGentler (Some o) state (Some h) r = ((r ≡ Some o) × (o.mean.weight * h.length ≤ h.weight * o.mean.length)) ⊎ ((r ≡ Some (record { state = state; mean = h })) × (h.weight * o.mean.length < o.mean.weight * h.length))

-- A longest walk to v has the weight `end`. It consists of a lightest walk of `before` edges to a state on the cycle, then the cycle, then the rest.
pub record IsCycleOnWalk (edges : List Edge) (n v end : ℕ) (cycle : List Edge) : Type 0 where
  pub at_state : ℕ
  pub before : ℕ
  pub weight : ℕ
  pub rest : List Edge
  pub among : AreAmong edges cycle
  pub closed : IsWalk at_state cycle at_state
  pub rest_among : AreAmong edges rest
  pub rest_walk : IsWalk at_state rest v
  pub before_is : least edges n before at_state ≡ Some weight
  pub turns : 0 < length cycle
  pub lengths : (before + length cycle) + length rest ≡ n
  pub weights : (weight + edges_weight cycle) + edges_weight rest ≡ end

-- how many entries are not None
abbrev pub marked : List (Option ℕ) → ℕ
marked [] = 0
marked (None ∷ os) = marked os
marked (Some r ∷ os) = suc (marked os)

-- some rise of v to the weight `end` has a mean of at least m / l
abbrev pub HasRiseIn : List (List (Option ℕ)) → ℕ → ℕ → ℕ → ℕ → ℕ → Type 0
HasRiseIn levels last m l v end = (k : ℕ) × (before : ℕ) × (k < last) × (level_weight_at levels k v ≡ Some before) × (before * l + m * (last - k) ≤ end * l)

-- s gives a state below i and the greatest mean of its rises. Each state below i to which a longest walk leads has a rise whose mean is at least this
-- mean
pub record IsGentlest (levels : List (List (Option ℕ))) (last i : ℕ) (s : Steep) : Type 0 where
  pub below : s.state < i
  pub steepest : IsSteepest levels last s.state s.mean.weight s.mean.length
  pub rises : (v end : ℕ) → v < i → level_weight_at levels last v ≡ Some end → HasRiseIn levels last s.mean.weight s.mean.length v end
  pub small_weight : s.mean.weight < 2 ^ 32
  pub small_length : s.mean.length < 2 ^ 31

-- the choice among the states below i; there is none if no longest walk leads to any of them
abbrev pub LeastSoFar : List (List (Option ℕ)) → ℕ → ℕ → Option Steep → Type 0
LeastSoFar levels last i None = (v : ℕ) → v < i → level_weight_at levels last v ≡ None
LeastSoFar levels last i (Some s) = IsGentlest levels last i s

-- r is the mean in lowest terms
pub record IsReduced (mean r : Ratio) : Type 0 where
  pub same : mean.weight * r.length ≡ r.weight * mean.length
  pub lowest : IsGcd r.weight r.length 1
  pub positive : 0 < r.length
  pub short : r.length ≤ mean.length
  pub light : r.weight ≤ mean.weight

-- h is the height of v: the greatest k below `last` such that a walk of k edges leads to v
pub record IsHeight (levels : List (List (Option ℕ))) (last v h : ℕ) : Type 0 where
  pub below : h < last
  pub here : is_some (level_weight_at levels h v) ≡ true
  pub greatest : (k : ℕ) → k < last → is_some (level_weight_at levels k v) ≡ true → k ≤ h

-- r is the rank of v: `last` less the height of v
abbrev pub IsRank : List (List (Option ℕ)) → ℕ → ℕ → ℕ → Type 0
IsRank levels last v r = (h : ℕ) × IsHeight levels last v h × (r + h ≡ last)
