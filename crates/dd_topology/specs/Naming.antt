-- Names as lists of bytes, and lists of names in the order in which they were added.
use Rattle.std.specs.Prelude.{◌≡◌, ◌≢◌, ℕ, List, Option, String, Contains, AllPairs, position, bytes_eq, string_bytes}
use Rattle.std.specs.declared.alloc.Global.{Global}
use Rattle.dd_topology.specs.declared.names.NameFault.{NameFault}
use Rattle.dd_topology.specs.declared.names.NameFault.TheVariants.{Twice, Memory}

-- no name occurs twice
abbrev pub AreDistinct : List (List ℕ) → Type 0
AreDistinct names = AllPairs (λ a b. a ≢ b) names

-- the number of a name: how many names come before it; `None` if the list doesn't have the name
abbrev pub number_of : List (List ℕ) → List ℕ → Option ℕ
number_of names name = position (bytes_eq name) names

-- the fault of a refused name holds this name. `Twice`: the list has it already. `Memory`: the list doesn't have it, and memory ran out
abbrev pub IsNameRefusal : List (List ℕ) → String Global → NameFault → Type 0
IsNameRefusal names name (Twice back) = (back ≡ name) × Contains names (string_bytes name)
IsNameRefusal names name (Memory back) = (back ≡ name) × ¬ Contains names (string_bytes name)
