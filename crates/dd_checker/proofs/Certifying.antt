-- The claim of each certificate for a query of a script is true.
use Rattle.std.proofs.Common.{◌≡◌, ℕ, ◌+◌, ◌-◌, ◌<◌, ◌≤◌, length, refl, ap, sym, subst, ◌∙◌, arith, Some, None, inl, inr}
use Rattle.std.proofs.lemmas.{Bool.cases_lt, Option.slice_get_within}
use Rattle.std.specs.Prelude.{Option, IsSomeAnd, slice_get}
use Rattle.dd_certificate.specs.declared.answer.Answer.{Answer}
use Rattle.dd_question.specs.Questions.{Asked}
use Rattle.dd_query.specs.declared.queries.Query.{Query}
use Rattle.dd_script.specs.{Parts.Parts, Questions.asked, Questions.query_at}
use Rattle.dd_values.specs.declared.limits.Limits.{Limits}
use Rattle.dd_verify.specs.Certificates.{IsCertificateOf, ClaimOf}
use Rattle.dd_checker.specs.{Certificates.IsCertificateFor, Certificates.IsCertificate, Claims.ClaimFor, Claims.Claim}
use Rattle.dd_checker.proofs.Verdicts.{claim_at}

-- the claim of each certificate for the query is true
abbrev pub IsTruthful : Parts → Query → Type 0
IsTruthful s q = (a : Answer) → IsCertificateFor s q a → ClaimFor s q a

pub query_claims : (s : Parts) (q : Query) (k : Asked) (l : Limits) → asked s q ≡ Some k → l ≡ s.known.limits →
    ((a : Answer) → IsCertificateOf l k a → ClaimOf k a) → IsTruthful s q
query_claims s q k l asks limits told a h =
    let certificate = subst (λ (o : Option Asked). IsSomeAnd o (λ j. IsCertificateOf s.known.limits j a)) asks h.1 in
    subst (λ (o : Option Asked). IsSomeAnd o (λ j. ClaimOf j a)) (sym asks) (told a (subst (λ (m : Limits). IsCertificateOf m k a) (sym limits) certificate))

-- the claim of each certificate for one of the first n queries is true
abbrev pub AreTruthful : Parts → ℕ → Type 0
AreTruthful s n = (number : ℕ) (a : Answer) → number - 1 < n → IsCertificate s number a → Claim s number a

pub none_truthful : (s : Parts) → AreTruthful s 0
none_truthful s number a low = absurd (omega (arith, low))

pub one_more : (s : Parts) (n : ℕ) (q : Query) → slice_get s.queries n ≡ Some q → IsTruthful s q → AreTruthful s n → AreTruthful s (n + 1)
one_more s n q is told before number a low = elim (cases_lt (number - 1) n) [
  | inl earlier ↦ before number a earlier
  | inr later ↦ (let same : number - 1 ≡ n = omega (arith, low, later) in claim_at s number q (ap (slice_get s.queries) same ∙ is) a (told a))
]

module _ (s : Parts) (n : ℕ) (past : length s.queries ≤ n) (told : AreTruthful s n) where
  query_within : (number : ℕ) (P : Query → Type 0) (o : Option Query) → query_at s number ≡ o → IsSomeAnd o P → number - 1 < n
  query_within number P (Some q) is h = let within = slice_get_within s.queries (number - 1) q is in omega (arith, within, past)
  query_within number P None is h = absurd h

  pub all_truthful : (number : ℕ) (a : Answer) → IsCertificate s number a → Claim s number a
  all_truthful number a h = told number a (query_within number (λ q. IsCertificateFor s q a) (query_at s number) refl h) h
