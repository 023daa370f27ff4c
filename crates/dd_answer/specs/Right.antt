-- Which answers to the queries of a script are right.
use Rattle.std.specs.Prelude.{IsSomeAnd}
use Rattle.dd_certificate.specs.{declared.answer.Answer.Answer, Bounds.IsWritable}
use Rattle.dd_query.specs.declared.queries.Query.{Query}
use Rattle.dd_respond.specs.Right.{IsRightTo}
use Rattle.dd_script.specs.{Parts.Parts, Questions.asked}

-- the answer is right for the question that the query asks, under the script's limits
abbrev pub Right : Parts → Query → Answer → Type 0
Right s q a = IsSomeAnd (asked s q) (λ k. IsRightTo s.known.limits k a)

-- The answer is a right answer to the query, and one that an output can hold.
pub record IsAnswerTo (s : Parts) (q : Query) (a : Answer) : Type 0 where
  pub right : Right s q a
  -- An output can hold the answer: its numbers are within bounds, and its lists have lengths that an output allows.
  pub writable : IsWritable a
