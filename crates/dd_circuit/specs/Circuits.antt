-- Signals, gates, circuits and their values.
use Rattle.std.specs.Prelude.{ℕ, suc, ◌+◌, ◌≤◌, Bool, true, ◌&&◌, not, if◌then◌else◌, List, [], ◌∷◌, All, length}
use Rattle.std.specs.{List.list_all, List.list_any, Bool.beq}
use Rattle.dd_circuit.specs.declared.gates.{Signal.Signal, Gate.Gate}
use Rattle.dd_circuit.specs.declared.gates.Gate.TheVariants.{And, Or, Iff}

-- A circuit. Its inputs are the variables 1, 2, .., and its gates have the variables after these, in order.
pub record Network : Type 0 where
  pub inputs : ℕ
  pub gates : List Gate

-- the number of variables of a circuit with this many inputs and these gates
abbrev pub size_of : ℕ → List Gate → ℕ
size_of inputs gates = inputs + length gates

-- the number of variables of a circuit
abbrev pub size : Network → ℕ
size circuit = size_of circuit.inputs circuit.gates

-- the signal that is the variable itself
abbrev pub signal_of : ℕ → Signal
signal_of variable = record { variable = variable; positive = true }

-- the signal with the opposite value
abbrev pub opposite : Signal → Signal
opposite s = record { variable = s.variable; positive = not s.positive }

-- the signal's variable is one of 1..n
abbrev pub IsSignal : ℕ → Signal → Type 0
IsSignal n s = (1 ≤ s.variable) × (s.variable ≤ n)

-- the variables of the gate's members are among 1..n
abbrev pub IsGate : ℕ → Gate → Type 0
IsGate n (And members) = All (IsSignal n) members
IsGate n (Or members) = All (IsSignal n) members
IsGate n (Iff a b) = IsSignal n a × IsSignal n b

-- each gate is over the variables 1..n and those of the gates before it; the first gate has the variable n + 1
abbrev pub AreGates : ℕ → List Gate → Type 0
AreGates n [] = Unit {0}
AreGates n (g ∷ gs) = IsGate n g × AreGates (suc n) gs

-- the value of a signal, where `set` gives the value of each variable
abbrev pub signal_value : (ℕ → Bool) → Signal → Bool
signal_value set s = if s.positive then set s.variable else not (set s.variable)

-- the value of a gate: whether all members are true, whether some member is, or whether both have the same value
abbrev pub gate_value : (ℕ → Bool) → Gate → Bool
gate_value set (And members) = list_all (signal_value set) members
gate_value set (Or members) = list_any (signal_value set) members
gate_value set (Iff a b) = beq (signal_value set a) (signal_value set b)

-- whether the variables n + 1, n + 2, .. have the values of these gates
abbrev pub agrees : (ℕ → Bool) → ℕ → List Gate → Bool
agrees set n [] = true
agrees set n (g ∷ gs) = beq (set (suc n)) (gate_value set g) && agrees set (suc n) gs
