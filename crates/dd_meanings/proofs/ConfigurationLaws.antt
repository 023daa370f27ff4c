-- A configuration without faults has a symbol for each cell of its box, and each symbol is allowed.
use Rattle.std.proofs.Common.{◌≡◌, ◌<◌, ◌≤◌, ℕ, zero, suc, ◌+◌, ◌*◌, ◌%◌, true, List, [], ◌∷◌, length, map, Option, Some, None, refl, ap, ◌∙◌, arith, slice_index}
use Rattle.std.proofs.lemmas.{Grind.common_steps, List.Elements.All-from_get_or}
use Rattle.dd_topology.specs.Sets.{allows}
use Rattle.dd_meanings.specs.Tree.{Word, Name, Entry, Vector, Command, Context}
use Rattle.dd_meanings.specs.{Definitions.symbol_of, Definitions.tile_of, Sound.IsNew, Sound.IsConfigurationOf}
use Rattle.dd_pattern.specs.{Tile.IsPeriodic, Tile.IsTile, lemmas.TileSizes.Sizes, lemmas.TileSizes.sizes_of}
use Rattle.dd_known.specs.{Sound.IsSound, Known.dimension_of}
use Rattle.dd_faults.specs.Commands.{is_allowed, symbol_faults, product, period_at, shear_of, shear_fits, box_faults, faults_of}
use Rattle.dd_faults.specs.lemmas.Periods.{entry_at, no_entry}
use Rattle.dd_meanings.proofs.{Nothing.parts, NameLaws.is_new}

-- ---- symbols

-- the symbol t is in the alphabet, and the node a allows it
record IsAllowedAt (x : Context) (a : ℕ) (t : ℕ) : Type 0 where
  below : t < length x.known.setting.symbols
  allowed : allows x.known.setting.sets a t ≡ true

allowed_from : (x : Context) (a : ℕ) (n : Name) → is_allowed x a n ≡ true → IsAllowedAt x a (symbol_of x n)
allowed_from x a n h = record { below = grind (arith, parts); allowed = grind (arith, parts) }

abbrev node_at : Context → ℕ → ℕ
node_at x k = k % length x.known.setting.nodes

symbols_are : (x : Context) (k j i : ℕ) (ns : List Name) → symbol_faults x k ns ≡ [] → j ≡ k + i → i < length (map (symbol_of x) ns) → IsAllowedAt x (node_at x j) (slice_index (map (symbol_of x) ns) i)
symbols_are x k j i [] none is below = absurd (omega (arith, below))
symbols_are x k j zero (n ∷ ns) none is below = let same : j ≡ k = omega (arith, is) in allowed_from x (node_at x j) n (grind (arith, parts))
symbols_are x k j (suc i) (n ∷ ns) none is below = symbols_are x (k + 1) j i ns (grind (arith, parts)) (omega (arith, is)) (omega (arith, below))

-- ---- periods

volume_is : (bytes : List ℕ) (es : List Entry) → length es ≤ 3 → product bytes es ≡ entry_at bytes es 2 * entry_at bytes es 1 * entry_at bytes es 0
volume_is bytes [] few = refl
volume_is bytes (a ∷ []) few = omega arith
volume_is bytes (a ∷ b ∷ []) few = omega arith
volume_is bytes (a ∷ b ∷ c ∷ []) few = omega arith
volume_is bytes (a ∷ b ∷ c ∷ d ∷ es) few = absurd (omega (arith, few))

entry_some : (bytes : List ℕ) (es : List Entry) (axis : ℕ) → 1 ≤ product bytes es → 1 ≤ entry_at bytes es axis
entry_some bytes [] axis h = omega arith
entry_some bytes (e ∷ es) zero h = grind arith
entry_some bytes (e ∷ es) (suc axis) h = entry_some bytes es axis (grind arith)

no_shear : (bytes : List ℕ) (d : ℕ) (shear : Option Vector) → shear_fits d shear ≡ true → d < 2 → shear_of bytes shear ≡ 0
no_shear bytes d None fits low = refl
no_shear bytes d (Some v) fits low = grind (arith, common_steps)

module _ (x : Context) (called : Word) (periods : Vector) (shear : Option Vector) (ns : List Name) (sound : IsSound x.known) (some : 1 ≤ length ns) (none : faults_of x (Command.Configuration called periods shear ns) ≡ []) where
  named : symbol_faults x 0 ns ≡ []
  named = grind (arith, parts)

  box : box_faults x periods shear (length ns) ≡ []
  box = grind (arith, parts)

  entries : length periods.entries ≡ dimension_of x.known
  entries = grind (arith, parts, box)

  size : product x.text periods.entries * length x.known.setting.nodes ≡ length ns
  size = grind (arith, parts, box)

  period_some : (axis : ℕ) → 1 ≤ period_at x.text periods axis
  period_some axis = let volume : 1 ≤ product x.text periods.entries = grind (arith, size, some) in entry_some x.text periods.entries axis volume

  is_tile : IsTile (tile_of x periods shear ns)
  is_tile = record {
    some_dimension = omega (arith, sound.setting.topology.grid.dimension.0);
    most_dimension = sound.setting.topology.grid.dimension.1;
    periods = record {
      x_some = period_some 0;
      y_some = period_some 1;
      z_some = period_some 2;
      y_unused = λ h. no_entry x.text periods.entries 1 (omega (arith, entries, h));
      z_unused = λ h. no_entry x.text periods.entries 2 (omega (arith, entries, h));
      shear_small = grind (arith, parts, box);
      shear_unused = no_shear x.text (dimension_of x.known) shear (grind (arith, parts, box));
    };
    nodes_some = omega (arith, sound.setting.topology.grid.nodes);
    full = grind (arith, parts, size, volume_is x.text periods.entries (omega (arith, entries, sound.setting.topology.grid.dimension.1)), sound.setting.topology.nodes);
  }

  pub is_periodic : IsPeriodic (tile_of x periods shear ns) × Sizes (tile_of x periods shear ns)
  is_periodic =
      let kept : IsPeriodic (tile_of x periods shear ns) = record { tile = is_tile; small = grind (arith, parts, box) } in
      (kept, sizes_of (tile_of x periods shear ns) kept)

  pub is_configuration : IsNew x called × IsConfigurationOf x.known.setting (tile_of x periods shear ns)
  is_configuration = (
    is_new x called (grind (arith, parts)),
    record {
      tile = is_tile;
      dimension = refl;
      nodes = refl;
      symbols = All-from_get_or (λ s. s < length x.known.setting.symbols) (map (symbol_of x) ns) 0 (λ i below. (symbols_are x 0 i i ns named (omega arith) below).below);
      allowed = λ i below.
          ap (λ n. allows x.known.setting.sets (i % n) (slice_index (map (symbol_of x) ns) i)) sound.setting.topology.nodes ∙ (symbols_are x 0 i i ns named (omega arith) below).allowed;
    },
  )
