-- A topology has edges between cells. The offset of an edge leads from the position of its first cell to that of its second. A vector with an entry
-- for each axis may be such an offset, if no entry is over 4 in absolute value.
use Rattle.std.proofs.Common.{◌≡◌, ◌≤◌, ℕ, true, false, List, Option, Some, None, length, refl, subst, arith}
use Rattle.std.proofs.lemmas.Bool.{eqb-true, ltb-false, lt-ltb, le-leb, and_from}
use Rattle.std.proofs.lemmas.{Int.ints, Option.slice_get_within, Map.Keys.any_passes_from_place}
use Rattle.std.specs.{Prelude.nat_lt, Prelude.nat_le, Prelude.pos, Prelude.unsigned_abs, Prelude.slice_get, List.list_any}
use Rattle.std.specs.Option.{option_map_or}
use Rattle.dd_topology.specs.Grid.{edge_reach, is_offset}
use Rattle.dd_written.specs.Values.{written_value}
use Rattle.dd_query.specs.{Tree.Entry, Tree.Vector, Vectors.coordinate, Vectors.place_of}
use Rattle.dd_faults.specs.Commands.{entry_value, signed_value, has_entries, is_far}

close_entry : (bytes : List ℕ) (e : Entry) → nat_lt 4 (entry_value bytes e) ≡ false → unsigned_abs (signed_value bytes e) ≤ 4
close_entry bytes (Entry.Number n) h = ltb-false 4 (written_value bytes n) h
close_entry bytes (Entry.Negative n) h = omega (arith, ints, ltb-false 4 (written_value bytes n) h)

pub near_at : (bytes : List ℕ) (es : List Entry) (axis : ℕ) (e : Entry) → list_any (λ a. nat_lt 4 (entry_value bytes a)) es ≡ false → slice_get es axis ≡ Some e → nat_lt 4 (entry_value bytes e) ≡ false
near_at bytes es axis e h is = grind (arith, any_passes_from_place)

on_axis : (bytes : List ℕ) (v : Vector) (axis : ℕ) → is_far bytes v ≡ false → nat_le (unsigned_abs (coordinate bytes v axis)) (edge_reach (length v.entries) axis) ≡ true
on_axis bytes v axis close = le-leb _ _ (by (slice_get v.entries axis) refl)
  where
    by : (o : Option Entry) → slice_get v.entries axis ≡ o → unsigned_abs (option_map_or (signed_value bytes) o (pos 0)) ≤ edge_reach (length v.entries) axis
    by None is = omega (arith, ints)
    by (Some e) is = rw (lt-ltb axis (length v.entries) (slice_get_within v.entries axis e is)) (close_entry bytes e (near_at bytes v.entries axis e close is))

-- a vector with an entry for each axis is an offset, if no entry is over 4 in absolute value
pub offset_is : (bytes : List ℕ) (d : ℕ) (v : Vector) → is_far bytes v ≡ false → has_entries d v ≡ true → is_offset d (place_of bytes v) ≡ true
offset_is bytes d v close all =
    subst (λ (n : ℕ). is_offset n (place_of bytes v) ≡ true) (eqb-true (length v.entries) d all)
    (and_from _ _ (and_from _ _ (on_axis bytes v 0 close) (on_axis bytes v 1 close)) (on_axis bytes v 2 close))
