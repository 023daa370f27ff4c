-- The right answers to three kinds of questions: whether a configuration lives in a subshift (obeys its rule at every cell), which patterns a rule
-- forbids, and what its minimal lists are. Each of these questions has only one right answer.
use Rattle.std.specs.Prelude.{ℤ, List}
use Rattle.dd_pattern.specs.Tile.{Tile}
use Rattle.dd_formula.specs.{LocalRule.LocalRule, Living.Lives}
use Rattle.dd_certificate.specs.declared.answer.{Listed.Listed, Starred.Starred, Answer.Answer}
use Rattle.dd_evidence.specs.{Cells.IsOutside, Lists.IsForbiddenList, Lists.IsStarredList}
use Rattle.dd_certificate.specs.declared.answer.Answer.TheVariants as answer

-- the configuration lives in the rule's subshift, and the answer says so; or the answer gives the first cell of the fundamental box (the box that
-- repeats) at which the rule is false
pub data IsMemberCertificate (x : LocalRule) (t : Tile) : Answer → Type 0 where
  member_inside : Lives x t → IsMemberCertificate x t answer.Inside
  member_outside : {place : List ℤ} → IsOutside x t place → IsMemberCertificate x t (answer.Outside place)

-- the answer lists the patterns that the rule forbids
pub data IsListCertificate (x : LocalRule) : Answer → Type 0 where
  all_forbidden : {patterns : List Listed} → IsForbiddenList x patterns → IsListCertificate x (answer.List patterns)

-- the answer has the minimal lists
pub data IsMinimalCertificate (x : LocalRule) : Answer → Type 0 where
  all_minimal : {patterns : List Starred} → IsStarredList x patterns → IsMinimalCertificate x (answer.Minimal patterns)
