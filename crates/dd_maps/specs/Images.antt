-- Where an image breaks a rule, and where two automata, applied one after the other, change a symbol. A look-up gives each cell a symbol, or none.
use Rattle.std.specs.Prelude.{ℕ, ◌<◌, ◌≡◌, ◌⊎◌, true, false, Some}
use Rattle.dd_lattice.specs.{Place.Place, Cells.cell, declared.position.Cell.Cell}
use Rattle.dd_pattern.specs.Reading.{Look}
use Rattle.dd_formula.specs.{LocalRule.LocalRule, LocalRule.is_true, LocalRule.rule_allows, Automata.value}
use Rattle.dd_formula.specs.declared.automaton.Automaton.{Automaton}

-- the image of a look-up under an automaton: it gives each cell the automaton's value there
abbrev pub image : Automaton → Look → Look
image f look c = Some (value f look c)

-- two automata give the cell different symbols
abbrev pub DifferAt : Automaton → Automaton → Look → Cell → Type 0
DifferAt f g look c = value f look c ≡ value g look c → ⊥

-- in the image under f, the cell has a symbol that its node allows, and the rule y is true there
abbrev pub KeepsAt : Automaton → LocalRule → Look → Cell → Type 0
KeepsAt f y look c = (rule_allows y c.node (value f look c) ≡ true) × (is_true y c (image f look) ≡ true)

-- in the image, the cell has a symbol that its node doesn't allow, or the rule is false there
abbrev pub BreaksAt : Automaton → LocalRule → Look → Cell → Type 0
BreaksAt f y look c = (rule_allows y c.node (value f look c) ≡ false) ⊎ (is_true y c (image f look) ≡ false)

-- the image under f of the image under g gives the cell its own symbol
abbrev pub GivesBackAt : Automaton → Automaton → Look → Cell → Type 0
GivesBackAt f g look c = image f (image g look) c ≡ look c

-- the image under f of the image under g gives the cell a symbol other than its own, or the cell has no symbol
abbrev pub ChangesAt : Automaton → Automaton → Look → Cell → Type 0
ChangesAt f g look c = GivesBackAt f g look c → ⊥

-- the cell has one of the first k symbols
abbrev pub HasSymbolAt : ℕ → Look → Cell → Type 0
HasSymbolAt k look c = (t : ℕ) × (t < k) × (look c ≡ Some t)

-- P holds at one or more of the n nodes of a position
abbrev pub AtSomeNode : ℕ → (Cell → Type 0) → Place → Type 0
AtSomeNode n P v = (a : ℕ) × (a < n) × P (cell v a)

-- P holds at each of the n nodes of a position
abbrev pub AtEachNode : ℕ → (Cell → Type 0) → Place → Type 0
AtEachNode n P v = (a : ℕ) → a < n → P (cell v a)

-- the automata give some cell of the position different symbols
abbrev pub Differ : ℕ → Automaton → Automaton → Look → Place → Type 0
Differ n f g look v = AtSomeNode n (DifferAt f g look) v

-- the image breaks the rule at one or more of the rule's nodes at the position
abbrev pub ImageBreaks : Automaton → LocalRule → Look → Place → Type 0
ImageBreaks f y look v = AtSomeNode y.nodes (BreaksAt f y look) v

-- some cell of the position has no symbol, or applying g and then f changes its symbol
abbrev pub Changes : ℕ → Automaton → Automaton → Look → Place → Type 0
Changes n f g look v = AtSomeNode n (ChangesAt f g look) v

-- each cell of the position has one of the first k symbols
abbrev pub HasSymbols : ℕ → ℕ → Look → Place → Type 0
HasSymbols n k look v = AtEachNode n (HasSymbolAt k look) v
