-- The texts of words and numbers, and the values of numbers.
use Rattle.std.specs.Prelude.{ℕ, ◌+◌, ◌-◌, ◌*◌, List, [], ◌∷◌, take, drop, ◌==◌, if◌then◌else◌}
use Rattle.dd_written.specs.Tree.{Word, Number, Name}

abbrev pub word_text : List ℕ → Word → List ℕ
word_text bytes w = take w.length (drop w.start bytes)

abbrev pub number_text : List ℕ → Number → List ℕ
number_text bytes n = take n.length (drop n.start bytes)

abbrev pub name_text : List ℕ → Name → List ℕ
name_text bytes (Name.Word w) = word_text bytes w
name_text bytes (Name.Number n) = number_text bytes n

-- the value of a number, given the value of its first digits and the list of its other digits
abbrev pub decimal : ℕ → List ℕ → ℕ
decimal value [] = value
decimal value (digit ∷ digits) = decimal (value * 10 + (digit - 48)) digits

-- the text without its leading `-`, if it has one
abbrev pub unsigned : List ℕ → List ℕ
unsigned [] = []
unsigned (b ∷ bytes) = if b == 45 then bytes else b ∷ bytes

-- the absolute value of a written number
abbrev pub written_value : List ℕ → Number → ℕ
written_value bytes n = decimal 0 (unsigned (number_text bytes n))
