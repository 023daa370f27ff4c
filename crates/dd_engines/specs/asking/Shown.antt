-- What asking one engine shows.
use Rattle.std.specs.Prelude.{◌≡◌, false}
use Rattle.dd_values.specs.Counts.{Rose}
use Rattle.dd_clause.specs.Clauses.{ClauseList}
use Rattle.dd_engines.specs.declared.roster.Reply.{Reply}
use Rattle.dd_engines.specs.declared.roster.Reply.TheVariants.{Right, Silent, Wrong}
use Rattle.dd_engines.specs.{Proposals.IsRightOutcome, Rounds.Seen}

-- what each reply shows: the engine made a right proposal, proposed nothing, or isn't sound
abbrev pub Shows : ClauseList → Seen → Seen → Reply → Type 0
Shows cnf old new (Right outcome) = IsRightOutcome cnf outcome × Rose old.given new.given
Shows cnf old new Silent = new.given ≡ old.given
Shows cnf old new Wrong = old.sound ≡ false
