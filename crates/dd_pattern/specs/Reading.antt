-- Look-ups, which give symbols to cells.
use Rattle.std.specs.Prelude.{ℕ, ◌<◌, Option, IfSome}
use Rattle.dd_lattice.specs.declared.position.Cell.{Cell}

-- a look-up of symbols: it gives each cell its symbol, or none
abbrev pub Look : Type 0
Look = Cell → Option ℕ

-- each symbol that the look-up gives is below n
abbrev pub HasSymbolsBelow : ℕ → Look → Type 0
HasSymbolsBelow n look = (c : Cell) → IfSome (look c) (λ s. s < n)
