-- What the answers to the queries of a script claim.
use Rattle.std.specs.Prelude.{ℕ, IsSomeAnd}
use Rattle.dd_certificate.specs.declared.answer.Answer.{Answer}
use Rattle.dd_query.specs.declared.queries.Query.{Query}
use Rattle.dd_script.specs.{Parts.Parts, Questions.asked, Questions.query_at}
use Rattle.dd_verify.specs.Certificates.{ClaimOf}

-- what an answer to the query of the script claims
abbrev pub ClaimFor : Parts → Query → Answer → Type 0
ClaimFor s q a = IsSomeAnd (asked s q) (λ k. ClaimOf k a)

-- what an answer to the query with this number, counted from 1 (0 counts as 1), claims
abbrev pub Claim : Parts → ℕ → Answer → Type 0
Claim s number a = IsSomeAnd (query_at s number) (λ q. ClaimFor s q a)
