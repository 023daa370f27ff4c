use Rattle.std.proofs.Common.{◌≡◌, ℕ, Bool, true, false, Some, None, Option, ap, sym, ◌∙◌}
use Rattle.std.specs.Prelude.{if◌then◌else◌}
use Rattle.dd_lattice.specs.{Place.Place, Place.moved, Place.is_in_range, declared.position.Cell.Cell}
use Rattle.dd_circuit.specs.declared.gates.Signal.{Signal}
use Rattle.dd_compile.specs.{Compiling.wires_near, Wiring.Wiring, Wiring.wire_of}
use Rattle.dd_compile.proofs.compiling.wire_near.Goals as goal

-- if `if b then Some m else None` gives a place p, then f p is what `if b then f m else None` gives
there : (b : Bool) (f : Place → Option Signal) (p m : Place) → Some p ≡ (if b then Some m else None) → f p ≡ (if b then f m else None)
there true f p m is = ap f cc
there false f p m is = absurd cc

wire_there : (w : Wiring) (v : Place) (c : Cell) (s : ℕ) (p : Place) → Some p ≡ (if is_in_range (moved c.position v) then Some (moved c.position v) else None) →
    wire_of w (record { position = p; node = c.node }) s ≡ wires_near w v c s
wire_there w v c s p is = there (is_in_range (moved c.position v)) (λ (q : Place). wire_of w (record { position = q; node = c.node }) s) p (moved c.position v) is

pub returns : goal.returns
returns c =
    c.get.ensures.value ∙ wire_there c.args.inputs.now c.args.at.now c.args.cell.now c.args.symbol c.in_ok-position.position (sym c.in_ok-position.was ∙ c.shift.ensures)
