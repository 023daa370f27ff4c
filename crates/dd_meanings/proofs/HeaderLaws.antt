-- What holds of the meanings of commands of the header, if they have no fault.
use Rattle.std.proofs.Common.{◌≡◌, ℕ, ◌≤◌, ◌<◌, List, [], ◌∷◌, length, map, refl, subst, arith, min}
use Rattle.std.specs.List.{flat_map}
use Rattle.std.proofs.lemmas.{Grind.common_steps, List.Elements.All-map}
use Rattle.dd_meanings.specs.Tree.{Number, Name, Command, Context}
use Rattle.dd_written.specs.Values.{written_value, name_text}
use Rattle.dd_topology.specs.{Naming.AreDistinct, Grid.Grid, Grid.IsGrid}
use Rattle.dd_known.specs.{Sound.IsGridOf, Sound.AreWeights}
use Rattle.dd_faults.specs.{Names.missing, Names.number_in, Commands.weight_faults, Commands.faults_of}
use Rattle.dd_meanings.specs.{Topologies.default_grid, Definitions.symbol_of, Sound.AreNames, Sound.IsSymbolRestriction}
use Rattle.dd_faults.specs.lemmas.Nothing.{all_where, number_below}
use Rattle.dd_meanings.proofs.Nothing.{parts}

-- ---- the dimension

pub dimension_is : (x : Context) (n : Number) (d : ℕ) → faults_of x (Command.Dimension n) ≡ [] → d ≡ min (written_value x.text n) 4294967295 → d ≡ written_value x.text n
dimension_is x n d h is = grind (arith, common_steps)

-- the default topology is well formed and has n nodes; g is this topology as the code has made it
pub default_sound : (d n : ℕ) (g : Grid) → IsGrid g → g ≡ default_grid d n → IsGridOf n (default_grid d n)
default_sound d n g sound is = record { grid = subst IsGrid is sound; nodes = grind (arith, parts) }

-- ---- names

pub names_are : (bytes : List ℕ) (most : ℕ) (written : List Name) (names : List (List ℕ)) → names ≡ map (name_text bytes) written → 1 ≤ length written → length written ≤ most → AreDistinct names → AreNames most (map (name_text bytes) written)
names_are bytes most written names is some few distinct = record { some = grind (arith, parts); few = grind (arith, parts); distinct = subst AreDistinct is distinct }

-- ---- symbols of a node

pub restriction_is : (x : Context) (node : Name) (symbols : List Name) → 1 ≤ length symbols → faults_of x (Command.Only node symbols) ≡ []
    → IsSymbolRestriction x.known.setting (number_in x.text x.known.setting.nodes node) (map (symbol_of x) symbols)
restriction_is x node symbols some h =
    let known = missing x.text x.known.setting.symbols in
    let here : missing x.text x.known.setting.nodes node ≡ [] = grind (arith, parts) in
    let none : flat_map known symbols ≡ [] = grind (arith, parts) in
    record {
      exists = number_below x.text x.known.setting.nodes node here;
      some = grind (arith, parts);
      below =
          All-map (λ s. s < length x.known.setting.symbols) (symbol_of x) symbols
          (all_where (λ n. symbol_of x n < length x.known.setting.symbols) known (number_below x.text x.known.setting.symbols) symbols none);
    }

-- ---- weights and limits

-- the value of a weight without a fault is not cut off at the greatest 32-bit number
pub uncut : (x : Context) (ns : List Number) → flat_map (weight_faults x) ns ≡ [] → map (λ n. min (written_value x.text n) 4294967295) ns ≡ map (written_value x.text) ns
uncut x [] none = refl
uncut x (n ∷ ns) none = grind (arith, parts, uncut x ns)

pub weights_are : (x : Context) (ns : List Number) → faults_of x (Command.Weights ns) ≡ [] → AreWeights (length x.known.setting.symbols) (map (written_value x.text) ns)
weights_are x ns h =
    let none : flat_map (weight_faults x) ns ≡ [] = grind (arith, parts) in
    let light = all_where (λ n. written_value x.text n ≤ 1000) (weight_faults x) (λ n light. grind (arith, common_steps)) ns none in
    record { each = grind (arith, parts); light = All-map (λ w. w ≤ 1000) (written_value x.text) ns light }
