-- If each leaf of an expansion has its wire, the expansion's gates are over earlier variables, and its signal is a signal of the circuit.
use Rattle.std.proofs.Common.{◌≡◌, ℕ, Bool, true, Option, Some, None, refl, arith}
use Rattle.std.proofs.lemmas.Bool.{and_parts, leb-true}
use Rattle.std.specs.Prelude.{nat_le}
use Rattle.dd_expansion.specs.declared.expanded.Expanded.{Expanded}
use Rattle.dd_circuit.specs.{declared.gates.Signal.Signal, Circuits.IsSignal}
use Rattle.dd_compile.specs.Compiling.{Wires, is_wire, are_wired, certain, wire_or_zero, made}
use Rattle.dd_compile.specs.lemmas.MadeFits.{IsMade, made_fits}

within : (n : ℕ) (o : Option Signal) → is_wire n o ≡ true → IsSignal n (wire_or_zero o)
within n None h = absurd (cc)
within n (Some x) h =
    let both = and_parts (nat_le 1 x.variable) (nat_le x.variable n) h in
    (leb-true 1 x.variable both.0, leb-true x.variable n both.1)

pub compiled_fits : (n : ℕ) (w : Wires) (e : Expanded) → are_wired n w e ≡ true → IsMade n (made (certain w) e n)
compiled_fits n w e wired = made_fits e (certain w) (λ c s. is_wire n (w c s)) n n (λ c s h. within n (w c s) h) (omega arith) wired
