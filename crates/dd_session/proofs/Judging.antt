-- The check of answers, one after another. If a comment only says what happened, its lemma is about that case.
use Rattle.std.proofs.Common.{◌≡◌, ◌⊎◌, inl, inr, ℕ, suc, ◌+◌, ◌-◌, ◌<◌, ◌≤◌, max, List, [], ◌∷◌, ◌++◌, length, get_or, Bool, true, false, ◌||◌, None, Some, refl, sym, ◌∙◌, ap, subst, arith, append-nil, add-one}
use Rattle.std.proofs.{KnownBytes.Appends-trans, lemmas.Bool.cases_lt, lemmas.Option.slice_get_within, lemmas.Option.slice_get_read}
use Rattle.std.specs.{Prelude.◌↔◌, Prelude.IsSomeAnd, Prelude.Result, Prelude.Ok, Prelude.Err, Prelude.OnErr, List.slice_get, List.list_any}
use Rattle.std.specs.{declared.option.Option.Option, Io.KnownBytes.Appends}
use Rattle.dd_outside.specs.{Bytes.GainsFront, lemmas.ByteLaws.front_after}
use Rattle.dd_certificate.specs.declared.answer.Answer.{Answer}
use Rattle.dd_query.specs.declared.queries.Query.{Query}
use Rattle.dd_script.specs.{Parts.Parts, Questions.query_at}
use Rattle.dd_respond.specs.Right.{is_unknown}
use Rattle.dd_checker.specs.declared.verdict.Verdict.{Verdict, TheVariants.Accepted}
use Rattle.dd_checker.specs.{Certificates.HasQuery, Certificates.IsCertificate, Certificates.IsCertificateFor, Claims.Claim}
use Rattle.dd_session.specs.Answers.{has_unknown}
use Rattle.dd_session.specs.Checks.{accepted_line, rejected_line, accepted_lines, checked_line, IsAcceptedAt, IsTrueAt, AcceptedTo, AllAccepted, FirstRejected, broken_off, rejected, finished}
use Rattle.dd_session.specs.Checked.{CheckFront}
use Rattle.dd_session.specs.checking.Judged.{IsJudged, Judged, JudgedFront, nothing, part, most_of, RejectedHere, AcceptedEach, AcceptedAll, EachJudged}

-- ---- options that are `Some`, and results

some_there : {X : Type 0} (o : Option X) (P : X → Type 0) → IsSomeAnd o P → (x : X) × (o ≡ Some x) × P x
some_there None P fact = absurd fact
some_there (Some x) P fact = (x, refl, fact)

some_from : {X : Type 0} (o : Option X) (P : X → Type 0) (x : X) → o ≡ Some x → P x → IsSomeAnd o P
some_from {X = X} o P x is fact = subst (λ (p : Option X). IsSomeAnd p P) (sym is) fact

pub on_err : {T E : Type 0} (r : Result T E) (P : Type 0) → P → OnErr r P
on_err (Ok x) P fact = tt
on_err (Err e) P fact = fact

-- ---- one answer

-- if `IsAcceptedAt` holds for a number, there are an answer and a query with this number
pub accepted_within : (s : Parts) (answers : List Answer) (n : ℕ) → IsAcceptedAt s answers n → (n - 1 < length answers) × (n - 1 < length s.queries)
accepted_within s answers n accepted =
    let there = some_there (slice_get answers (n - 1)) (λ a. IsCertificate s n a) accepted in
    let asked = some_there (query_at s n) (λ q. IsCertificateFor s q there.0) there.2 in
    (slice_get_within answers (n - 1) there.0 there.1, slice_get_within s.queries (n - 1) asked.0 asked.1)

pub has_query_at : (s : Parts) (n : ℕ) → 1 ≤ n → n - 1 < length s.queries → HasQuery s n
has_query_at s n numbered less = record { numbered = numbered; within = omega (arith, numbered, less) }

-- if the answer with the number n is accepted, it is a certificate
at_number : (s : Parts) (answers : List Answer) (n : ℕ) (a : Answer) → slice_get answers (n - 1) ≡ Some a → IsAcceptedAt s answers n → IsCertificate s n a
at_number s answers n a is accepted = subst (λ (o : Option Answer). IsSomeAnd o (λ b. IsCertificate s n b)) is accepted

pub judged : (s : Parts) (answers : List Answer) (n place : ℕ) (a : Answer) (v : Verdict) (b : Bool) → place ≡ n - 1 → place < length answers
    → a ≡ get_or answers place a → ((v ≡ Accepted) ↔ IsCertificate s n a) → ((b ≡ true) ↔ (v ≡ Accepted)) → IsJudged s answers n b
judged s answers n place a v b at less is told same =
    by_test b same
  where
    there : slice_get answers (n - 1) ≡ Some a
    there = subst (λ (i : ℕ). slice_get answers i ≡ Some a) at (slice_get_read answers (length answers) place a refl less is)

    by_test : (b : Bool) → ((b ≡ true) ↔ (v ≡ Accepted)) → IsJudged s answers n b
    by_test true same = some_from (slice_get answers (n - 1)) (λ c. IsCertificate s n c) a there (told.0 (same.0 refl))
    by_test false same = λ accepted.
        let wrong : false ≡ true = same.1 (told.1 (at_number s answers n a there accepted)) in absurd (cc wrong)

-- ---- the answers in order

next_accepted : (s : Parts) (answers : List Answer) (done : ℕ) → AcceptedTo s answers done → IsAcceptedAt s answers (done + 1) → AcceptedTo s answers (done + 1)
next_accepted s answers done before here number low high = elim (cases_lt done number) [
  | inl past ↦ (let same : done + 1 ≡ number = omega (arith, past, high) in subst (λ (n : ℕ). IsAcceptedAt s answers n) same here)
  | inr below ↦ before number low below
]

next_lines : (done : ℕ) → accepted_lines (done + 1) ≡ accepted_lines done ++ accepted_line (done + 1)
next_lines done = ap accepted_lines (add-one done)

-- what holds, and what was written, once the next answer is checked
pub accepted_next : (s : Parts) (answers : List Answer) (b c : Option (List ℕ)) (done number : ℕ) → number ≡ done + 1 → AcceptedTo s answers done
    → Judged b c s answers number true → AcceptedTo s answers (done + 1)
accepted_next s answers b c done number is before one =
    next_accepted s answers done before (subst (IsAcceptedAt s answers) is one.judged)

pub lines_next : (s : Parts) (answers : List Answer) (a b c : Option (List ℕ)) (done number : ℕ) → number ≡ done + 1 → Appends a b (accepted_lines done)
    → Judged b c s answers number true → Appends a c (accepted_lines (done + 1))
lines_next s answers a b c done number is before one =
    subst (Appends a c) (ap (λ (n : ℕ). accepted_lines done ++ accepted_line n) is ∙ sym (next_lines done))
    (Appends-trans a b c (accepted_lines done) (accepted_line number) before one.appends)

first_rejected : (s : Parts) (answers : List Answer) (done number : ℕ) → number ≡ done + 1 → done < most_of s answers → AcceptedTo s answers done
    → ¬ IsAcceptedAt s answers number → FirstRejected s answers done
first_rejected s answers done number is less before not_here = record {
  within = less;
  before = before;
  rejected = subst (λ (n : ℕ). ¬ IsAcceptedAt s answers n) is not_here;
}

pub rejected_next : (s : Parts) (answers : List Answer) (a b c : Option (List ℕ)) (done number : ℕ) → number ≡ done + 1 → done < most_of s answers
    → AcceptedTo s answers done → Appends a b (accepted_lines done) → Judged b c s answers number false → RejectedHere a c s answers
rejected_next s answers a b c done number is less accepted before one = record {
  done = done;
  rejected = first_rejected s answers done number is less accepted one.judged;
  appends = subst (Appends a c) (ap (λ (n : ℕ). accepted_lines done ++ rejected_line n) is)
      (Appends-trans a b c (accepted_lines done) (rejected_line number) before one.appends);
}

-- a prefix of the next line was written
pub front_next : (s : Parts) (answers : List Answer) (a b c : Option (List ℕ)) (done number : ℕ) → number ≡ done + 1 → done < most_of s answers
    → AcceptedTo s answers done → Appends a b (accepted_lines done) → JudgedFront b c s answers number → CheckFront a c s answers
front_next s answers a b c done number is less accepted before (nothing front) = record {
  done = done;
  ending = [];
  accepted = accepted;
  is_ending = broken_off refl;
  front = front_after a b c (accepted_lines done) [] before front;
}
front_next s answers a b c done number is less accepted before (part true here front) = record {
  done = done + 1;
  ending = [];
  accepted = next_accepted s answers done accepted (subst (IsAcceptedAt s answers) is here);
  is_ending = broken_off refl;
  front = subst (GainsFront a c)
      (ap (λ (n : ℕ). accepted_lines done ++ accepted_line n) is ∙ sym (next_lines done) ∙ sym (append-nil (accepted_lines (done + 1))))
      (front_after a b c (accepted_lines done) (accepted_line number) before front);
}
front_next s answers a b c done number is less accepted before (part false here front) = record {
  done = done;
  ending = rejected_line (done + 1);
  accepted = accepted;
  is_ending = rejected (first_rejected s answers done number is less accepted here) refl;
  front = subst (GainsFront a c) (ap (λ (n : ℕ). accepted_lines done ++ rejected_line n) is)
      (front_after a b c (accepted_lines done) (rejected_line number) before front);
}

-- ---- all answers

pub most_are : (s : Parts) (answers : List Answer) (queries : List Query) (most : ℕ) → queries ≡ s.queries → most ≡ max (length queries) (length answers)
    → most ≡ most_of s answers
most_are s answers queries most same is = is ∙ ap (λ (l : List Query). max (length l) (length answers)) same

pub below_most : (s : Parts) (answers : List Answer) (queries : List Query) (most done : ℕ) → queries ≡ s.queries → most ≡ max (length queries) (length answers)
    → done < most → done < most_of s answers
below_most s answers queries most done same is less = subst (λ (n : ℕ). done < n) (most_are s answers queries most same is) less

-- if an answer and a query both have the number `most`, the greater of the two counts, there are as many answers as queries
as_many : (queries answers most : ℕ) → most ≡ max queries answers → (1 ≤ most → (most - 1 < answers) × (most - 1 < queries)) → answers ≡ queries
as_many queries answers most is within = elim (cases_lt 0 most) [
  | inl some ↦ (let both = within (omega (arith, some)) in omega (arith, is, some, both.0, both.1))
  | inr none ↦ omega (arith, is, none)
]

same_length : (s : Parts) (answers : List Answer) → AcceptedTo s answers (most_of s answers) → length answers ≡ length s.queries
same_length s answers all =
    as_many (length s.queries) (length answers) (most_of s answers) refl
    (λ some. accepted_within s answers (most_of s answers) (all (most_of s answers) some (omega arith)))

-- what a certificate claims is true
abbrev AreTrue : Parts → Type 0
AreTrue s = (number : ℕ) (a : Answer) → IsCertificate s number a → Claim s number a

true_at : (s : Parts) (answers : List Answer) (n : ℕ) → AreTrue s → IsAcceptedAt s answers n → IsTrueAt s answers n
true_at s answers n certified accepted =
    let there = some_there (slice_get answers (n - 1)) (λ a. IsCertificate s n a) accepted in
    some_from (slice_get answers (n - 1)) (λ a. Claim s n a) there.0 there.1 (certified n there.0 there.2)

most_is : (s : Parts) (answers : List Answer) → AcceptedTo s answers (most_of s answers) → most_of s answers ≡ length answers
most_is s answers all = omega (arith, same_length s answers all)

all_accepted : (s : Parts) (answers : List Answer) → AreTrue s → AcceptedTo s answers (most_of s answers) → AllAccepted s answers
all_accepted s answers certified all =
    let to : AcceptedTo s answers (length answers) = subst (AcceptedTo s answers) (most_is s answers all) all in
    record {
      each = same_length s answers all;
      accepted = to;
      claims = λ number low high. true_at s answers number certified (to number low high);
    }

-- the last line was written
pub finished_all : (s : Parts) (answers : List Answer) (a b c : Option (List ℕ)) (line : List ℕ) → AreTrue s → AcceptedEach a b s answers
    → line ≡ checked_line (length answers) → Appends b c line → AcceptedAll a c s answers
finished_all s answers a b c line certified each is wrote = record {
  all = all_accepted s answers certified each.accepted;
  appends = Appends-trans a b c (accepted_lines (length answers)) (checked_line (length answers))
      (subst (λ (n : ℕ). Appends a b (accepted_lines n)) (most_is s answers each.accepted) each.appends) (subst (Appends b c) is wrote);
}

-- a prefix of the last line was written
pub finished_front : (s : Parts) (answers : List Answer) (a b c : Option (List ℕ)) (line : List ℕ) → AreTrue s → AcceptedEach a b s answers
    → line ≡ checked_line (length answers) → GainsFront b c line → CheckFront a c s answers
finished_front s answers a b c line certified each is front =
    let all = all_accepted s answers certified each.accepted in record {
      done = length answers;
      ending = checked_line (length answers);
      accepted = all.accepted;
      is_ending = finished all refl refl;
      front = front_after a b c (accepted_lines (length answers)) (checked_line (length answers))
          (subst (λ (n : ℕ). Appends a b (accepted_lines n)) (most_is s answers each.accepted) each.appends) (subst (GainsFront b c) is front);
    }

-- memory ran out before the last line was made
pub unfinished_front : (s : Parts) (answers : List Answer) (a b : Option (List ℕ)) → AcceptedEach a b s answers → CheckFront a b s answers
unfinished_front s answers a b each = record {
  done = most_of s answers;
  ending = [];
  accepted = each.accepted;
  is_ending = broken_off refl;
  front = record {
    gained = accepted_lines (most_of s answers);
    missing = [];
    appends = each.appends;
    whole = refl;
  };
}

pub each_accepted : (s : Parts) (answers : List Answer) (a b : Option (List ℕ)) (t : Bool) → t ≡ true → EachJudged a b s answers t → AcceptedEach a b s answers
each_accepted s answers a b t is told = subst (EachJudged a b s answers) is told

pub each_rejected : (s : Parts) (answers : List Answer) (a b : Option (List ℕ)) (t : Bool) → t ≡ false → EachJudged a b s answers t → RejectedHere a b s answers
each_rejected s answers a b t is told = subst (EachJudged a b s answers) is told

pub judged_as : (s : Parts) (answers : List Answer) (a b : Option (List ℕ)) (n : ℕ) (t u : Bool) → t ≡ u → Judged a b s answers n t → Judged a b s answers n u
judged_as s answers a b n t u is told = subst (Judged a b s answers n) is told

-- `list_any is_unknown` and `has_unknown` agree
pub unknown_any : (answers : List Answer) → list_any is_unknown answers ≡ has_unknown answers
unknown_any [] = refl
unknown_any (a ∷ answers) = ap (λ (b : Bool). is_unknown a || b) (unknown_any answers)
