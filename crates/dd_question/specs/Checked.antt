-- Questions with the limits of their search, and how they are checked.
use Rattle.std.specs.Prelude.{◌≡◌, Some}
use Rattle.dd_values.specs.{Ranges.AreLimits, declared.limits.Limits.Limits}
use Rattle.dd_question.specs.declared.{excess.Excess.Excess, fault.QuestionFault.QuestionFault}
use Rattle.dd_question.specs.Questions.{Asked, IsFormed, IsPartFault, excess_of, IsSoundAsked}
use Rattle.dd_question.specs.declared.fault.QuestionFault.TheVariants as fault

-- a question, and the limits of its search
pub record AskedWithin : Type 0 where
  pub question : Asked
  pub limits : Limits

abbrev pub asked_within : Limits → Asked → AskedWithin
asked_within l a = record { question = a; limits = l }

-- what holds of a checked question: the limits of its search are in range, its parts fit together, and it exceeds no limit on
-- its work
pub record IsChecked (q : AskedWithin) : Type 0 where
  pub limits : AreLimits q.limits
  pub sound : IsSoundAsked q.limits q.question

-- the fault is right: the limits of the search are out of range; or else some part doesn't fit those before it, or memory ran
-- out; or else the question exceeds a limit on its work
pub data IsFaultWithin (l : Limits) (a : Asked) : QuestionFault → Type 0 where
  limits_fault : ¬ AreLimits l → IsFaultWithin l a fault.Limits
  part_fault : {f : QuestionFault} → AreLimits l → IsPartFault a f → IsFaultWithin l a f
  excess_fault : {e : Excess} → AreLimits l → IsFormed a → excess_of l a ≡ Some e → IsFaultWithin l a (fault.Excess e)
