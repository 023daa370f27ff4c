-- The text of an answer. Its lines hold words, numbers, fractions and stars, with one space between them. Each line ends with a line feed. The first
-- line begins with the word `query` and the query's number. The definition of the first line of one kind of answer, such as `no_text`, leaves out
-- this beginning.
use Rattle.std.specs.Prelude.{ℕ, ℤ, List, [], ◌∷◌, ◌++◌, length, codes, ◌==◌, if◌then◌else◌, Option, Some, None}
use Rattle.std.specs.{List.flat_map, Fmt.decimal, Fmt.signed_decimal}
use Rattle.dd_clause.specs.declared.clause.Literal.{Literal}
use Rattle.dd_derivation.specs.declared.step.Step.{Step}
use Rattle.dd_certificate.specs.declared.answer.{Side.Side, Reason.Reason, Listed.Listed}
use Rattle.dd_certificate.specs.declared.answer.{Starred.Starred, Answer.Answer}
use Rattle.dd_certificate.specs.declared.answer.Side.TheVariants as side
use Rattle.dd_certificate.specs.declared.answer.Reason.TheVariants as reason
use Rattle.dd_certificate.specs.declared.answer.Answer.TheVariants as answer

abbrev pub line_feed : List ℕ
line_feed = codes "\n"

-- a number with a space before it
abbrev pub after_space : ℕ → List ℕ
after_space n = codes " " ++ decimal n

abbrev pub signed_after_space : ℤ → List ℕ
signed_after_space z = codes " " ++ signed_decimal z

-- numbers, each with a space before it
abbrev pub spaced_out : List ℕ → List ℕ
spaced_out ns = flat_map after_space ns

-- these numbers and a line feed: the end of a line
abbrev pub numbers_to_end : List ℕ → List ℕ
numbers_to_end ns = spaced_out ns ++ line_feed

abbrev pub signed_to_end : List ℤ → List ℕ
signed_to_end zs = flat_map signed_after_space zs ++ line_feed

-- this fraction and a line feed
abbrev pub fraction_to_end : ℕ → ℕ → List ℕ
fraction_to_end numerator denominator = decimal numerator ++ (codes "/" ++ (decimal denominator ++ line_feed))

-- ---- refutations

-- a variable's number, with a minus sign if the literal is negative
abbrev pub literal_text : Literal → List ℕ
literal_text l = if l.positive then decimal l.variable else (codes "-" ++ decimal l.variable)

-- a literal with a space after it
abbrev pub spaced_literal : Literal → List ℕ
spaced_literal l = literal_text l ++ codes " "

-- a number with a space after it
abbrev pub spaced : ℕ → List ℕ
spaced n = decimal n ++ codes " "

-- numbers, each with a space after it, then the 0 that ends them, and then the byte `next`: 32 is a space, 10 a line feed
abbrev pub numbers_to_zero : ℕ → List ℕ → List ℕ
numbers_to_zero next ns = flat_map spaced ns ++ (codes "0" ++ next ∷ [])

abbrev pub literals_to_zero : List Literal → List ℕ
literals_to_zero ls = flat_map spaced_literal ls ++ codes "0 "

-- the line of a step: the literals of its clause, its hints (the numbers of the clauses from which its clause follows), and the
-- numbers of the clauses that the step deletes
abbrev pub step_text : Step → List ℕ
step_text s = codes "step " ++ (literals_to_zero s.clause ++ (numbers_to_zero 32 s.hints ++ numbers_to_zero 10 s.deletes))

-- a line with the number of steps, and a line for each step
abbrev pub refutation_text : List Step → List ℕ
refutation_text steps = codes "refutation " ++ (decimal (length steps) ++ (line_feed ++ flat_map step_text steps))

-- ---- answers

abbrev pub side_text : Side → List ℕ
side_text side.Whole = []
side_text side.Left = codes " left"
side_text side.Right = codes " right"

abbrev pub reason_text : Reason → List ℕ
reason_text reason.Limits = codes "limits"
reason_text reason.Large = codes "large"
reason_text reason.Overflow = codes "overflow"
reason_text reason.Pivots = codes "pivots"

-- a shear of 0 is not written
abbrev pub shear_text : ℕ → List ℕ
shear_text shear = if shear == 0 then [] else (codes " shear " ++ decimal shear)

-- the line of a pattern: its node, and then its symbols
abbrev pub pattern_text : Listed → List ℕ
pattern_text p = codes "pattern " ++ (decimal p.node ++ numbers_to_end p.symbols)

-- the number of a symbol, or a star for a cell that is left out
abbrev pub symbol_or_star_text : Option ℕ → List ℕ
symbol_or_star_text None = codes "*"
symbol_or_star_text (Some n) = decimal n

abbrev pub symbol_or_star_after_space : Option ℕ → List ℕ
symbol_or_star_after_space s = codes " " ++ symbol_or_star_text s

-- these symbols and stars, and a line feed
abbrev pub symbols_and_stars_to_end : List (Option ℕ) → List ℕ
symbols_and_stars_to_end symbols = flat_map symbol_or_star_after_space symbols ++ line_feed

abbrev pub starred_text : Starred → List ℕ
starred_text p = codes "pattern " ++ (decimal p.node ++ symbols_and_stars_to_end p.symbols)

abbrev pub yes_both_text : ℕ → ℕ → List ℕ
yes_both_text left right = codes "YES " ++ (decimal left ++ (codes " " ++ (decimal right ++ line_feed)))

-- these periods, this shear, and a line feed
abbrev pub periods_to_end : List ℕ → ℕ → List ℕ
periods_to_end periods shear = spaced_out periods ++ (shear_text shear ++ line_feed)

-- the first line of `No`: the side, the periods and the shear
abbrev pub no_text : Side → List ℕ → ℕ → List ℕ
no_text side periods shear = codes "NO" ++ (side_text side ++ periods_to_end periods shear)

-- the first line of `Broken`: the number of the question, the periods and the shear
abbrev pub broken_text : ℕ → List ℕ → ℕ → List ℕ
broken_text part periods shear = codes "BROKEN " ++ (decimal part ++ periods_to_end periods shear)

-- a line: a word that ends with a space, and a number
abbrev pub number_line : List ℕ → ℕ → List ℕ
number_line word n = word ++ (decimal n ++ line_feed)

-- a line: a word, and then numbers
abbrev pub numbers_line : List ℕ → List ℕ → List ℕ
numbers_line word ns = word ++ numbers_to_end ns

-- the first line of an answer, without the word `query` and the query's number
abbrev pub verdict_text : Answer → List ℕ
verdict_text answer.Inside = codes "IN\n"
verdict_text (answer.Outside place) = codes "OUT" ++ signed_to_end place
verdict_text (answer.Yes radius steps) = number_line (codes "YES ") radius
verdict_text (answer.YesBoth left right left_steps right_steps) = yes_both_text left right
verdict_text (answer.No side periods shear symbols) = no_text side periods shear
verdict_text (answer.Unknown reason) = codes "UNKNOWN " ++ (reason_text reason ++ line_feed)
verdict_text (answer.List patterns) = number_line (codes "LIST ") (length patterns)
verdict_text (answer.Density numerator denominator cycle potentials) = codes "DENSITY " ++ fraction_to_end numerator denominator
verdict_text (answer.Empty ranks) = codes "EMPTY\n"
verdict_text (answer.Bound numerator denominator common amounts duals) = codes "BOUND " ++ fraction_to_end numerator denominator
verdict_text (answer.Minimal patterns) = number_line (codes "MINIMAL ") (length patterns)
verdict_text (answer.Conjugate radii steps) = numbers_line (codes "CONJUGATE") radii
verdict_text (answer.Broken part periods shear symbols) = broken_text part periods shear
verdict_text (answer.Least weight symbols steps) = number_line (codes "LEAST ") weight
verdict_text (answer.Nothing steps) = codes "NONE\n"

-- the lines of `Density` after the first: one with the length of the cycle and its states, and one with the potentials
abbrev pub density_lines : List ℕ → List ℤ → List ℕ
density_lines cycle potentials =
    codes "cycle " ++ (decimal (length cycle) ++ (numbers_to_end cycle ++ (codes "potentials" ++ signed_to_end potentials)))

abbrev pub amounts_and_duals_text : List ℕ → List ℕ → List ℕ
amounts_and_duals_text amounts duals = numbers_line (codes "amounts") amounts ++ numbers_line (codes "duals") duals

abbrev pub bound_lines : ℕ → List ℕ → List ℕ → List ℕ
bound_lines common amounts duals = number_line (codes "denominator ") common ++ amounts_and_duals_text amounts duals

-- the lines of `Least` after the first: one with the symbols, and a refutation if the weight isn't 0
abbrev pub least_lines : ℕ → List ℕ → List Step → List ℕ
least_lines weight symbols steps = numbers_line (codes "conf") symbols ++ (if weight == 0 then [] else refutation_text steps)

-- the lines of an answer after the first
abbrev pub further_lines : Answer → List ℕ
further_lines answer.Inside = []
further_lines (answer.Outside place) = []
further_lines (answer.Yes radius steps) = refutation_text steps
further_lines (answer.YesBoth left right left_steps right_steps) = refutation_text left_steps ++ refutation_text right_steps
further_lines (answer.No side periods shear symbols) = numbers_line (codes "conf") symbols
further_lines (answer.Unknown reason) = []
further_lines (answer.List patterns) = flat_map pattern_text patterns
further_lines (answer.Density numerator denominator cycle potentials) = density_lines cycle potentials
further_lines (answer.Empty ranks) = numbers_line (codes "ranks") ranks
further_lines (answer.Bound numerator denominator common amounts duals) = bound_lines common amounts duals
further_lines (answer.Minimal patterns) = flat_map starred_text patterns
further_lines (answer.Conjugate radii steps) = flat_map refutation_text steps
further_lines (answer.Broken part periods shear symbols) = numbers_line (codes "conf") symbols
further_lines (answer.Least weight symbols steps) = least_lines weight symbols steps
further_lines (answer.Nothing steps) = refutation_text steps

-- the first line of the answer to the query with this number
abbrev pub answer_line : ℕ → Answer → List ℕ
answer_line query a = codes "query " ++ (decimal query ++ (codes " " ++ verdict_text a))

-- all lines of the answer to the query with this number
abbrev pub answer_text : ℕ → Answer → List ℕ
answer_text query a = answer_line query a ++ further_lines a
