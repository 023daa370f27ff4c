-- How `are_right` judges the answers: it goes through them in order, one at a time.
use Rattle.std.proofs.Common.{◌≡◌, inl, inr, ℕ, ◌+◌, ◌-◌, ◌<◌, ◌≤◌, List, length, get_or, Bool, true, false, ◌&&◌, Some, refl, sym, ◌∙◌, ap, subst, arith}
use Rattle.std.proofs.lemmas.{Bool.cases_lt, Option.slice_get_read}
use Rattle.std.specs.{Prelude.IsSomeAnd, Prelude.IsTrue, Prelude.◌↔◌, Prelude.◌≢◌, List.slice_get, declared.option.Option.Option}
use Rattle.dd_certificate.specs.declared.answer.Answer.{Answer}
use Rattle.dd_query.specs.declared.queries.Query.{Query}
use Rattle.dd_script.specs.Parts.{Parts}
use Rattle.dd_checker.specs.declared.verdict.Verdict.{Verdict, TheVariants.Accepted}
use Rattle.dd_checker.specs.{Certificates.HasQuery, Certificates.IsCertificate, Claims.Claim}
use Rattle.dd_examples.specs.Checked.{IsRight, IsRightAt, AreRightTo, AreRight}

pub has_query_at : (s : Parts) (before number : ℕ) → before < length s.queries → number ≡ before + 1 → HasQuery s number
has_query_at s before number less at = record { numbered = omega (arith, at); within = omega (arith, at, less) }

-- the answer at the index `done` has the number `done + 1`
there : (answers : List Answer) (done : ℕ) (a : Answer) → done < length answers → a ≡ get_or answers done a → slice_get answers (done + 1 - 1) ≡ Some a
there answers done a less at =
    let place : done ≡ done + 1 - 1 = omega arith in
    subst (λ (i : ℕ). slice_get answers i ≡ Some a) place (slice_get_read answers (length answers) done a refl less at)

right_at : (s : Parts) (answers : List Answer) (done : ℕ) (a : Answer) → done < length answers → a ≡ get_or answers done a
    → IsRight s (done + 1) a ↔ IsRightAt s answers (done + 1)
right_at s answers done a less at = (
  λ right. subst (λ (o : Option Answer). IsSomeAnd o (λ b. IsRight s (done + 1) b)) (sym (there answers done a less at)) right,
  λ right. subst (λ (o : Option Answer). IsSomeAnd o (λ b. IsRight s (done + 1) b)) (there answers done a less at) right,
)

pub none_yet : (s : Parts) (answers : List Answer) → IsTrue true ↔ AreRightTo s answers 0
none_yet s answers = (λ yes number low high. absurd (omega (arith, low, high)), λ all. refl)

-- if `before` says whether the first `done` answers are right, and `this` whether the next one is, then `before && this` says
-- whether all of these are right
pub right_next : (s : Parts) (answers : List Answer) (done : ℕ) (a : Answer) (before this : Bool) → done < length answers → a ≡ get_or answers done a
    → (IsTrue before ↔ AreRightTo s answers done) → (IsTrue this ↔ IsRight s (done + 1) a)
    → IsTrue (before && this) ↔ AreRightTo s answers (done + 1)
right_next s answers done a true this less at so_far one = (
  λ yes number low high. elim (cases_lt done number) [
    | inl past ↦ (let same : done + 1 ≡ number = omega (arith, past, high) in
        subst (λ (n : ℕ). IsRightAt s answers n) same ((right_at s answers done a less at).0 (one.0 yes)))
    | inr below ↦ so_far.0 refl number low below
  ],
  λ all. one.1 ((right_at s answers done a less at).1 (all (done + 1) (omega arith) (omega arith))),
)
right_next s answers done a false this less at so_far one = (
  λ yes. absurd (cc yes),
  λ all. so_far.1 (λ number low high. all number low (omega (arith, high))),
)

-- an index into the answers is also an index into the script's queries
pub below_queries : (s : Parts) (qs : List Query) (answers : List Answer) (done : ℕ) → qs ≡ s.queries → length answers ≡ length qs → done < length answers
    → done < length s.queries
below_queries s qs answers done are as_many less = omega (arith, as_many, less, ap length are)

pub all_right : (s : Parts) (qs : List Query) (answers : List Answer) (all : Bool) → qs ≡ s.queries → length answers ≡ length qs
    → (IsTrue all ↔ AreRightTo s answers (length answers)) → IsTrue all ↔ AreRight s answers
all_right s qs answers all are as_many each = (
  λ yes. record { as_many = as_many ∙ ap length are; each = each.0 yes },
  λ right. each.1 right.each,
)

pub too_many_or_few : (s : Parts) (qs : List Query) (answers : List Answer) → qs ≡ s.queries → length answers ≢ length qs → IsTrue false ↔ AreRight s answers
too_many_or_few s qs answers are other = (λ yes. absurd (cc yes), λ right. absurd (other (right.as_many ∙ sym (ap length are))))

-- the verdict tells whether the answer is right
pub right_as : (s : Parts) (a : Answer) (before number : ℕ) (v : Verdict) (b : Bool) → number ≡ before + 1
    → ((v ≡ Accepted) ↔ IsCertificate s number a) → (v ≡ Accepted → Claim s number a) → ((b ≡ true) ↔ (v ≡ Accepted))
    → IsTrue b ↔ IsRight s (before + 1) a
right_as s a before number v b at exact claim same = subst (λ (n : ℕ). IsTrue b ↔ IsRight s n a) at (
  λ yes. record { certificate = exact.0 (same.0 yes); claim = claim (same.0 yes) },
  λ right. same.1 (exact.1 right.certificate),
)
