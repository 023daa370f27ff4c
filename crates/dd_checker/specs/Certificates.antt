-- Which answers to the queries of a script are certificates.
use Rattle.std.specs.Prelude.{ℕ, ◌≤◌, length, IsSomeAnd}
use Rattle.dd_certificate.specs.{declared.answer.Answer.Answer, Bounds.IsWritable}
use Rattle.dd_query.specs.declared.queries.Query.{Query}
use Rattle.dd_script.specs.{Parts.Parts, Questions.asked, Questions.query_at}
use Rattle.dd_verify.specs.Certificates.{IsCertificateOf}

-- An output can hold the answer, and the answer is a certificate for the question that the query asks, within the script's limits.
abbrev pub IsCertificateFor : Parts → Query → Answer → Type 0
IsCertificateFor s q a = IsWritable a × IsSomeAnd (asked s q) (λ k. IsCertificateOf s.known.limits k a)

-- the answer is a certificate for the query with this number, counted from 1 (0 counts as 1)
abbrev pub IsCertificate : Parts → ℕ → Answer → Type 0
IsCertificate s number a = IsSomeAnd (query_at s number) (λ q. IsCertificateFor s q a)

-- there is a query with this number
pub record HasQuery (s : Parts) (number : ℕ) : Type 0 where
  pub numbered : 1 ≤ number
  pub within : number ≤ length s.queries
