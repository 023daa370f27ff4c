use Rattle.std.proofs.Common.{◌≡◌, ℕ, Bool, true, false, List, length, Some, refl, eq-eqb}
use Rattle.std.proofs.lemmas.Bool.{eqb-true}
use Rattle.std.specs.{Prelude.Option, Prelude.◌==◌, Prelude.◌&&◌, List.list_all}
use Rattle.dd_circuit.specs.declared.gates.Signal.{Signal}
use Rattle.dd_compile.specs.{Wiring.Wiring, Wiring.signals_of, RuleSignals.is_signal, RuleSignals.are_signals}
use Rattle.dd_compile.specs.lemmas.WiringLaws.{found_list, missing_list}
use Rattle.dd_compile.proofs.inputs.Inputs.has_signals.Goals as goal

full : (n k : ℕ) (o : Option (List Signal)) (ss ts : List Signal) (b : Bool) → o ≡ Some ss → ts ≡ ss → length ts ≡ k → b ≡ list_all (is_signal n) ts → b ≡ are_signals n k o
full n k o ss ts b is same long said = rw (is, ← same, eq-eqb (length ts) k long) said

stops : (b x : Bool) → (b ≡ true → ⊥) → b ≡ (b && x)
stops true x h = absurd (h refl)
stops false x h = refl

short : (n k : ℕ) (o : Option (List Signal)) (ss ts : List Signal) → o ≡ Some ss → ts ≡ ss → (length ts ≡ k → ⊥) → (length ts == k) ≡ are_signals n k o
short n k o ss ts is same other = rw (is, ← same) (stops (length ts == k) (list_all (is_signal n) ts) (λ h. other (eqb-true (length ts) k h)))

pub returns-then-signals-symbols : goal.returns-then-signals-symbols
returns-then-signals-symbols c =
    let w : Wiring = record { cells = c.self.inside.cells.items; signals = c.self.inside.signals.items } in
    let e = c.in-Ok.ensures in
    let list = found_list w c.as_slice.result.now c.args.cell.now c.in-Ok.place c.index.result.now c.self.invariant c.as_slice.ensures.value e.bound e.position c.index.ensures in
    rw (← c.self.view_is)
    (full c.args.variables c.args.symbols (signals_of w c.args.cell.now) c.index.result.now c.as_slice-signals.result.now c.are_signals.result list c.as_slice-signals.ensures
    c.if-signals-symbols.true c.are_signals.ensures)

pub returns-else-signals-symbols : goal.returns-else-signals-symbols
returns-else-signals-symbols c =
    let w : Wiring = record { cells = c.self.inside.cells.items; signals = c.self.inside.signals.items } in
    let e = c.in-Ok.ensures in
    let list = found_list w c.as_slice.result.now c.args.cell.now c.in-Ok.place c.index.result.now c.self.invariant c.as_slice.ensures.value e.bound e.position c.index.ensures in
    rw (← c.self.view_is)
    (short c.args.variables c.args.symbols (signals_of w c.args.cell.now) c.index.result.now c.as_slice-signals.result.now list c.as_slice-signals.ensures c.if-signals-symbols.false)

pub returns-in-Err : goal.returns-in-Err
returns-in-Err c =
    let w : Wiring = record { cells = c.self.inside.cells.items; signals = c.self.inside.signals.items } in
    let e = c.in-Err.ensures in
    rw (← c.self.view_is)
    (rw (missing_list w c.as_slice.result.now c.args.cell.now c.in-Err.field-0 c.self.invariant c.as_slice.ensures.value e.bound e.position) refl)
