-- The marks of the blocks where a clause may have no true literal.
use Rattle.std.proofs.Common.{◌≡◌, ◌≢◌, ℕ, zero, suc, ◌+◌, ◌*◌, ◌/◌, ◌<◌, ◌≤◌, min, Bool, true, false, List, [], ◌∷◌, inl, inr, length, get_or, sym, ◌∙◌, ap, arith}
use Rattle.std.proofs.Math.ListN.{set, replicate}
use Rattle.std.proofs.lemmas.Bool.{cases_eq, cases_lt, eqb-true, eq-eqb, false≢true, false_from_ne_true}
use Rattle.std.proofs.lemmas.List.{length-set, length-replicate, get_or-replicate, get_or-set_same, get_or-set_other}
use Rattle.dd_engines.specs.walking.Truths.{is_zero_at, HasMarks, NoneWithin, IsFirstIn, NoneIsZero, IsFirstZero}

record NoneAt (counts : List ℕ) (k : ℕ) : Type 0 where
  within : k < length counts
  none : get_or counts k 0 ≡ 0

none_at : (counts : List ℕ) (k : ℕ) → is_zero_at counts k ≡ true → NoneAt counts k
none_at [] k h = absurd (false≢true h)
none_at (x ∷ counts) zero h = record { within = omega arith; none = eqb-true x 0 h }
none_at (x ∷ counts) (suc k) h = let r = none_at counts k h in record { within = omega (arith, r.within); none = r.none }

at_none : (counts : List ℕ) (k : ℕ) → k < length counts → get_or counts k 0 ≡ 0 → is_zero_at counts k ≡ true
at_none [] k lt h = absurd (omega (arith, lt))
at_none (x ∷ counts) zero lt h = eq-eqb x 0 h
at_none (x ∷ counts) (suc k) lt h = at_none counts k (omega (arith, lt)) h

pub some_at : (counts : List ℕ) (k : ℕ) → 0 < get_or counts k 0 → is_zero_at counts k ≡ false
some_at counts k some = false_from_ne_true (is_zero_at counts k) (λ t. absurd (omega (arith, some, (none_at counts k t).none)))

-- a mark at each block, and 0 as the first block to look at, agree with any counts
pub all_marked : (counts : List ℕ) → HasMarks counts (replicate (length counts / 32 + 1) true) 0
all_marked counts = record {
  long = length-replicate (length counts / 32 + 1) true;
  after = λ k h. omega arith;
  marked = λ k h. get_or-replicate (length counts / 32 + 1) (k / 32) true false (omega (arith, (none_at counts k h).within));
}

-- a block without a mark can be passed over
pub passed : (counts : List ℕ) (marks : List Bool) (block : ℕ) → HasMarks counts marks block → get_or marks block false ≡ false → HasMarks counts marks (block + 1)
passed counts marks block listed unmarked = record {
  long = listed.long;
  after = λ k h. elim (cases_eq (k / 32) block) [
    | inl e ↦ absurd (false≢true (sym unmarked ∙ ap (λ (b : ℕ). get_or marks b false) (sym e) ∙ listed.marked k h))
    | inr ne ↦ omega (arith, ne, listed.after k h)
  ];
  marked = listed.marked;
}

-- a block without a count of 0 can lose its mark
pub cleared : (counts : List ℕ) (marks : List Bool) (block : ℕ) → HasMarks counts marks block → NoneWithin counts (32 * block) (32 * block + 32) → HasMarks counts (set marks block false) (block + 1)
cleared counts marks block listed none =
    let past : (k : ℕ) → is_zero_at counts k ≡ true → block + 1 ≤ k / 32 = λ k h. elim (cases_lt k (32 * block + 32)) [
      | inl lt ↦ absurd (false≢true (sym (none k (omega (arith, listed.after k h)) lt) ∙ h))
      | inr ge ↦ omega (arith, ge)
    ] in
    record {
      long = length-set marks block false ∙ listed.long;
      after = past;
      marked = λ k h. get_or-set_other marks block (k / 32) false false (λ e. omega (arith, e, past k h)) ∙ listed.marked k h;
    }

-- the first count of 0 in the first block that has one is the first of all
pub first_of_all : (counts : List ℕ) (marks : List Bool) (block place : ℕ) → HasMarks counts marks block → IsFirstIn counts block place → IsFirstZero counts place
first_of_all counts marks block place listed first = record {
  within = first.within;
  none = first.none;
  before = λ k lt. elim (cases_lt k (32 * block)) [
    | inl early ↦ false_from_ne_true (is_zero_at counts k) (λ t. absurd (omega (arith, early, listed.after k t)))
    | inr late ↦ first.before k late lt
  ];
}

-- if all blocks have been passed, no count is 0
pub none_left : (counts : List ℕ) (marks : List Bool) (block : ℕ) → HasMarks counts marks block → length marks ≤ block → NoneIsZero counts
none_left counts marks block listed past k = false_from_ne_true (is_zero_at counts k) (λ t. absurd (omega (arith, listed.long, past, listed.after k t, (none_at counts k t).within)))

pub none_listed : (counts : List ℕ) (marks : List Bool) (block : ℕ) → HasMarks counts marks block → length marks ≤ block → (start : ℕ) → HasMarks counts marks start
none_listed counts marks block listed past start = record {
  long = listed.long;
  after = λ k h. absurd (false≢true (sym (none_left counts marks block listed past k) ∙ h));
  marked = listed.marked;
}

-- a count other than 0 can be written without a mark
pub some_written : (counts : List ℕ) (marks : List Bool) (start number count : ℕ) → number < length counts → HasMarks counts marks start → 0 < count → HasMarks (set counts number count) marks start
some_written counts marks start number count lt listed some =
    let before : (k : ℕ) → is_zero_at (set counts number count) k ≡ true → is_zero_at counts k ≡ true = λ k h.
    let at = none_at (set counts number count) k h in
    elim (cases_eq k number) [
      | inl e ↦ absurd (omega (arith, some, at.none, ap (λ (j : ℕ). get_or (set counts number count) j 0) e, get_or-set_same counts number count 0 lt))
      | inr ne ↦ at_none counts k (omega (arith, at.within, length-set counts number count)) (sym (get_or-set_other counts number k count 0 ne) ∙ at.none)
    ] in
    record {
      long = listed.long ∙ ap (λ (n : ℕ). n / 32 + 1) (sym (length-set counts number count));
      after = λ k h. listed.after k (before k h);
      marked = λ k h. listed.marked k (before k h);
    }

-- any count can be written if its block gets a mark, and if the search then starts at this block or earlier
pub written_marked : (counts : List ℕ) (marks : List Bool) (start number count : ℕ) → number < length counts → HasMarks counts marks start → HasMarks (set counts number count) (set marks (number / 32) true) (min start (number / 32))
written_marked counts marks start number count lt listed =
    let inside : number / 32 < length marks = omega (arith, lt, listed.long) in
    let here : (k : ℕ) → k / 32 ≡ number / 32 → get_or (set marks (number / 32) true) (k / 32) false ≡ true = λ k e. ap (λ (b : ℕ). get_or (set marks (number / 32) true) b false) e ∙ get_or-set_same marks (number / 32) true false inside in
    let before : (k : ℕ) → k ≢ number → is_zero_at (set counts number count) k ≡ true → is_zero_at counts k ≡ true = λ k ne h.
    let at = none_at (set counts number count) k h in
    at_none counts k (omega (arith, at.within, length-set counts number count)) (sym (get_or-set_other counts number k count 0 ne) ∙ at.none) in
    record {
      long = length-set marks (number / 32) true ∙ listed.long ∙ ap (λ (n : ℕ). n / 32 + 1) (sym (length-set counts number count));
      after = λ k h. elim (cases_eq k number) [
        | inl e ↦ omega (arith, e)
        | inr ne ↦ omega (arith, listed.after k (before k ne h))
      ];
      marked = λ k h. elim (cases_eq (k / 32) (number / 32)) [
        | inl e ↦ here k e
        | inr ne ↦ get_or-set_other marks (number / 32) (k / 32) true false ne ∙ listed.marked k (before k (λ e. ne (ap (λ (n : ℕ). n / 32) e)) h)
      ];
    }
