-- The symbols of a configuration are checked one after the other. The first period of a box with few cells is not cut off.
use Rattle.std.proofs.Common.{◌≡◌, ℕ, ◌+◌, ◌*◌, ◌%◌, ◌≤◌, ◌<◌, List, [], ◌∷◌, ◌++◌, length, Option, true, not, refl, arith, slice_get}
use Rattle.std.specs.Option.{option_map_or}
use Rattle.std.proofs.Math.Nat.{le-mul_of_pos_right, mul_assoc}
use Rattle.std.proofs.lemmas.{Bool.and_parts, Bool.eqb-true, Grind.common_steps}
use Rattle.dd_faults.specs.{Tree.Name, Tree.Entry, Tree.Vector, Tree.Fault, Tree.Context, Order.when}
use Rattle.dd_faults.specs.Commands.{is_allowed, symbol_faults, entry_value, product, period_at, box_fits}

pub first_symbol : (x : Context) (k : ℕ) (n : Name) (ns all : List Name) → all ≡ n ∷ ns →
    symbol_faults x k all ≡ when (not (is_allowed x (k % length x.known.setting.nodes) n)) (Fault.Unknown n) ++ symbol_faults x (k + 1) ns
first_symbol x k n ns all is = rw is refl

-- if the number of cells is at least 1 and not cut off, the first period is not cut off either
first : (bytes : List ℕ) (es : List Entry) (nodes n : ℕ) → n < 4294967295 → 1 ≤ n → product bytes es * nodes ≡ n → option_map_or (entry_value bytes) (slice_get es 0) 1 < 4294967295
first bytes [] nodes n lt some is = omega arith
first bytes (e ∷ es) nodes n lt some is = grind (arith, common_steps, mul_assoc, le-mul_of_pos_right)

-- if the periods, the shear and the number of symbols fit, and this number is at least 1 and below 4294967295, then the first period is not cut off
pub first_of_box : (x : Context) (v : Vector) (shear : Option Vector) (count : ℕ) → count < 4294967295 → 1 ≤ count → box_fits x v shear count ≡ true → period_at x.text v 0 < 4294967295
first_of_box x v shear count few some fits = first x.text v.entries (length x.known.setting.nodes) count few some (eqb-true _ _ (and_parts _ _ fits).1)
