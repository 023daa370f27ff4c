-- What the gates of a composition require of its two automata, and what holds once the gates of the inner values are there.
use Rattle.std.specs.Prelude.{ℕ, ◌≡◌, ◌<◌, true, List, [], ◌∷◌, map}
use Rattle.std.specs.List.{All, list_all}
use Rattle.dd_lattice.specs.{Cells.shifted, declared.position.Cell.Cell}
use Rattle.dd_formula.specs.Automata.{CommonNumbers, IsAutomaton, counted, is_cell_of}
use Rattle.dd_formula.specs.declared.automaton.Automaton.{Automaton}
use Rattle.dd_circuit.specs.{declared.gates.Signal.Signal, Circuits.Network, Circuits.IsSignal, Circuits.size}
use Rattle.dd_compile.specs.{Wiring.Wiring, ValueSignals.SaysValue, ValueSignals.are_wired_there}

-- both automata are well formed over the same common numbers, for which k is the size of the alphabet and a is one of the nodes
pub record HaveSymbols (f g : Automaton) (k a : ℕ) : Type 0 where
  pub setting : CommonNumbers
  pub outer : IsAutomaton setting f
  pub inner : IsAutomaton setting g
  pub below : a < setting.nodes
  pub all : setting.symbols ≡ k

-- the automaton is well formed over some common numbers for which k is the size of the alphabet, and each of these cells has a position of the common
-- dimension and one of the common nodes
pub record HasSymbolsAt (f : Automaton) (k : ℕ) (cs : List Cell) : Type 0 where
  pub setting : CommonNumbers
  pub formed : IsAutomaton setting f
  pub cells : list_all (is_cell_of setting) cs ≡ true
  pub all : setting.symbols ≡ k

-- each cell that the automaton reads at one of these cells, which are relative to `at`, has its signals
abbrev pub AreWired : ℕ → ℕ → Wiring → Automaton → List Cell → Cell → Type 0
AreWired n k w f cs at = list_all (λ c. are_wired_there n k w ((counted f).reads c.node) (shifted at.position c)) cs ≡ true

-- these are signals of the circuit that say what the automaton's value at c is
pub record IsValued (circuit : Network) (w : Wiring) (k : ℕ) (f : Automaton) (c : Cell) (signals : List Signal) : Type 0 where
  pub says : SaysValue circuit w k f c signals
  pub in_range : All (IsSignal (size circuit)) signals

-- there is one list of such signals for each of these cells, which are relative to `at`, in the same order
abbrev pub AreValued : Network → Wiring → ℕ → Automaton → Cell → List Cell → List (List Signal) → Type 0
AreValued circuit w k f at [] [] = Unit {0}
AreValued circuit w k f at [] (ss ∷ sss) = ⊥
AreValued circuit w k f at (c ∷ cs) [] = ⊥
AreValued circuit w k f at (c ∷ cs) (ss ∷ sss) = IsValued circuit w k f (shifted at.position c) ss × AreValued circuit w k f at cs sss

-- the wiring v has exactly these cells, moved by `at`, each with such signals
pub record AreValues (circuit : Network) (w : Wiring) (k : ℕ) (f : Automaton) (cs : List Cell) (at : Cell) (v : Wiring) : Type 0 where
  pub cells : v.cells ≡ map (shifted at.position) cs
  pub each : AreValued circuit w k f at cs v.signals
