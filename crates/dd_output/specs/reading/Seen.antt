-- The code returns an entry as an option, as a value and a flag, or as a `PeriodEntry`. These functions give the `Entry` that is meant.
use Rattle.std.specs.Prelude.{ℕ, ℤ, Option, Some, None, Bool, cond}
use Rattle.dd_clause.specs.declared.clause.Literal.{Literal}
use Rattle.dd_certificate.specs.declared.answer.Answer.{Answer}
use Rattle.dd_output.specs.{declared.sides.PeriodEntry.PeriodEntry, reading.Stops.Entry, reading.Stops.item, reading.Stops.last}
use Rattle.dd_output.specs.reading.Periods.{PeriodsEnd, ends, shears}
use Rattle.dd_output.specs.declared.sides.PeriodEntry.TheVariants as entry

-- an item of a list; `None` stands for the end of the list
abbrev pub seen : {A : Type 0} → Option A → Entry A (Unit {0})
seen None = last tt
seen (Some x) = item x

abbrev pub literal_seen : Option Literal → Entry Literal (Unit {0})
literal_seen = seen

abbrev pub number_seen : Option ℕ → Entry ℕ (Unit {0})
number_seen = seen

abbrev pub answer_seen : Option Answer → Entry Answer (Unit {0})
answer_seen = seen

-- a number, and whether it is the last one of its line
abbrev pub line_seen : ℕ → Bool → Entry ℕ ℕ
line_seen n is_last = cond is_last (last n) (item n)

abbrev pub signed_seen : ℤ → Bool → Entry ℤ ℤ
signed_seen n is_last = cond is_last (last n) (item n)

abbrev pub symbol_or_star_seen : Option ℕ → Bool → Entry (Option ℕ) (Option ℕ)
symbol_or_star_seen s is_last = cond is_last (last s) (item s)

abbrev pub period_seen : PeriodEntry → Entry ℕ PeriodsEnd
period_seen (entry.Period n) = item n
period_seen (entry.Last n) = last (ends n)
period_seen (entry.Shear n) = last (shears n)
