-- Formulas over a list of symbols, without variables: their truth, and how expansions become such formulas.
use Rattle.std.specs.Prelude.{ℕ, ◌≡◌, ◌++◌, not, Bool, false, Option, Some, None, List, slice_get}
use Rattle.std.specs.{Bool.beq, List.list_all, List.list_any}
use Rattle.dd_expansion.specs.declared.expanded.Expanded.{Expanded, TheFolds.fold-Expanded}
use Rattle.dd_expansion.specs.{declared.expanded.Expanded.TheOpen.Expanded-F, Truth.is_symbol}
use Rattle.dd_numbered.specs.declared.numbered.Numbered.{Numbered, roll-Numbered}
use Rattle.dd_numbered.specs.declared.numbered.Numbered.{TheFolds.fold-Numbered, TheOpen.Numbered-F}
use Rattle.dd_numbered.specs.Numbering.{Numbering}

-- the truth of a formula, from the truth of its parts
abbrev pub holds_in_step : Numbered-F (List ℕ → Bool) → List ℕ → Bool
holds_in_step (Numbered-F.Constant b) ss = b
holds_in_step (Numbered-F.Leaf k s) ss = is_symbol s (slice_get ss k)
holds_in_step (Numbered-F.Not e) ss = not (e ss)
holds_in_step (Numbered-F.And es) ss = list_all (λ e. e ss) es
holds_in_step (Numbered-F.Or es) ss = list_any (λ e. e ss) es
holds_in_step (Numbered-F.Iff e f) ss = beq (e ss) (f ss)

-- the truth of a formula for a list of symbols
abbrev pub holds_in : Numbered → List ℕ → Bool
holds_in = fold-Numbered (List ℕ → Bool) holds_in_step

-- the formula has the truth value b for every list that begins with these symbols
abbrev pub IsSettled : Numbered → List ℕ → Bool → Type 0
IsSettled e ss b = (more : List ℕ) → holds_in e (ss ++ more) ≡ b

-- the leaf that says that the list has the symbol s at the index k, or the constant false if no index is given
abbrev pub leaf_with : ℕ → Option ℕ → Numbered
leaf_with s None = roll-Numbered (Numbered-F.Constant false)
leaf_with s (Some k) = roll-Numbered (Numbered-F.Leaf k s)

-- the formula for an expansion, given the formulas for the parts of the expansion
abbrev pub numbered_step : Numbering → Expanded-F Numbered → Numbered
numbered_step number (Expanded-F.Constant b) = roll-Numbered (Numbered-F.Constant b)
numbered_step number (Expanded-F.Leaf c s) = leaf_with s (number c)
numbered_step number (Expanded-F.Not e) = roll-Numbered (Numbered-F.Not e)
numbered_step number (Expanded-F.And es) = roll-Numbered (Numbered-F.And es)
numbered_step number (Expanded-F.Or es) = roll-Numbered (Numbered-F.Or es)
numbered_step number (Expanded-F.Iff e f) = roll-Numbered (Numbered-F.Iff e f)

-- the expansion with a number in place of each cell, and with the constant false in place of each leaf whose cell has no number
abbrev pub numbered : Numbering → Expanded → Numbered
numbered number = fold-Expanded Numbered (numbered_step number)
