use Rattle.std.proofs.Common.{◌≡◌, ◌+◌, ◌∷◌, [], length, length-append, arith, ap}
use Rattle.std.proofs.lemmas.Grind.{common_steps}
use Rattle.dd_circuit.specs.{Circuits.IsGate, Circuits.size, lemmas.GateLists.AreGates-snoc}
use Rattle.dd_circuit.proofs.gates.Circuit.add.Goals as goal

pub invariant_of-self-2 : goal.invariant_of-self-2
invariant_of-self-2 c =
    let inside = c.self.inside in
    let same : inside.inputs + length inside.gates ≡ size c.args.self.now = ap size c.self.view_is in
    let one = length-append inside.gates (c.args.gate ∷ []) in
    let few = c.requires.few in
    let here : IsGate (inside.inputs + length inside.gates) c.args.gate = rw same c.requires.in_range in
    rw (c.in_ok-push.ensures.ok) (omega (arith, same, one, few), AreGates-snoc inside.inputs inside.gates c.args.gate c.self.invariant.1 here)

pub returns-clause-in_range : goal.returns-clause-in_range
returns-clause-in_range c = grind (arith, common_steps)
