-- The fault `Dimension`, the faults of tokens, and the entries of vectors.
use Rattle.std.specs.Prelude.{ℕ, List, [], length, Bool, not, ◌==◌, nat_lt, ℤ, pos, ◌-ℤ◌}
use Rattle.std.specs.List.{list_any}
use Rattle.dd_known.specs.Limits.{most_letters, greatest_number, farthest}
use Rattle.dd_faults.specs.{Tree.Number, Tree.Lexeme, Tree.Entry, Tree.Vector, Tree.Limit, Tree.Fault, Order.when, Order.over}
use Rattle.dd_written.specs.Values.{written_value}

-- the fault `Dimension`, unless `fits` is true
abbrev pub dimension_unless : Bool → List Fault
dimension_unless fits = when (not fits) Fault.Dimension

-- ---- tokens

abbrev pub token_faults : List ℕ → Lexeme → List Fault
token_faults bytes (Lexeme.Word w) = over (nat_lt most_letters w.length) Limit.Word
token_faults bytes (Lexeme.Number n) = over (nat_lt greatest_number (written_value bytes n)) Limit.Number
token_faults bytes (Lexeme.Negative n) = over (nat_lt greatest_number (written_value bytes n)) Limit.Number
token_faults bytes (Lexeme.Mark m) = []
token_faults bytes Lexeme.Stray = []

-- ---- vectors

-- the number of an entry, as written: its text begins with `-` if the entry is negative
abbrev pub entry_number : Entry → Number
entry_number (Entry.Number n) = n
entry_number (Entry.Negative n) = n

-- the absolute value of an entry
abbrev pub entry_value : List ℕ → Entry → ℕ
entry_value bytes e = written_value bytes (entry_number e)

-- the value of an entry, with its sign
abbrev pub signed_value : List ℕ → Entry → ℤ
signed_value bytes (Entry.Number n) = pos (written_value bytes n)
signed_value bytes (Entry.Negative n) = pos 0 -ℤ pos (written_value bytes n)

-- the vector has this many entries
abbrev pub has_entries : ℕ → Vector → Bool
has_entries d v = length v.entries == d

-- some entry is over `farthest` in absolute value
abbrev pub is_far : List ℕ → Vector → Bool
is_far bytes v = list_any (λ e. nat_lt farthest (entry_value bytes e)) v.entries
