-- Reading all of the bytes: they are the text of at most one output, and bytes that aren't the text of an output are refused at their offset. The
-- laws of `src/laws.rt` follow from this.
use Rattle.std.proofs.Common.{◌≡◌, ℕ, suc, ◌+◌, ◌-◌, ◌<◌, ◌≤◌, List, [], ◌∷◌, ◌++◌, length, length-append, take, Result, Ok, Err, Bool, true, false, cond, ◌⊎◌, inl, inr, refl, sym, ap, subst, ◌∙◌, append_assoc, arith}
use Rattle.std.proofs.lemmas.Bool.{eqb-true, Decides.leb_tells}
use Rattle.std.proofs.{lemmas.List.append-nil, lemmas.List.nil_from_length, lemmas.List.take_at, lemmas.List.drop_at, Math.Seq.take-add}
use Rattle.std.specs.Prelude.{◌==◌}
use Rattle.dd_output.specs.{declared.output.Output.Output, reading.Stops.Stop, reading.Stops.stop, reading.Stops.StoppedAt}
use Rattle.dd_output.specs.{Outputs.output_text, Outputs.IsWritableOutput, Outputs.IsWellFormed, Offsets.IsOffset, Offsets.ReadsOutput}
use Rattle.dd_output.specs.declared.fault.CertificateFault.{CertificateFault}
use Rattle.dd_output.specs.reading.Whole.{output_at, all_at, missing_of, completion}
use Rattle.dd_output.proofs.{Readers.bind_ok, Readers.bind_err, Readers.ok_is, Outputs.output_reads}
use Rattle.dd_output.specs.declared.fault.CertificateFault.TheVariants as faults

ended_ok : {A : Type 0} (b : Bool) (x y : A) (s : Stop) → cond b (Ok x) (Err s) ≡ Ok y → (b ≡ true) × (x ≡ y)
ended_ok true x y s e = (refl, cc)
ended_ok false x y s e = absurd cc

ended_err : {A : Type 0} (b : Bool) (x : A) (s z : Stop) → cond b (Ok x) (Err s) ≡ Err z → (b ≡ false) × (s ≡ z)
ended_err true x s z e = absurd cc
ended_err false x s z e = (refl, cc)

abbrev all_read : Output × List ℕ → Result Output Stop
all_read x = cond (length x.1 == 0) (Ok x.0) (Err (stop x.1 []))

pub whole_takes : (bytes : List ℕ) (o : Output) → all_at bytes ≡ Ok o → IsWritableOutput o × (bytes ≡ output_text o)
unfolding all_at
whole_takes bytes o e =
    let a = bind_ok (output_at bytes) all_read o e in
    let b = ended_ok (length a.0.1 == 0) a.0.0 o (stop a.0.1 []) a.2 in
    let none : a.0.1 ≡ [] = nil_from_length a.0.1 (eqb-true _ _ b.0) in
    let one = output_reads.takes bytes a.0.0 a.0.1 a.1 in
    subst (λ (o : Output). IsWritableOutput o × (bytes ≡ output_text o)) b.1
    (one.1, one.0 ∙ (ap (λ (l : List ℕ). output_text a.0.0 ++ l) none ∙ append-nil (output_text a.0.0)))

pub whole_again : (o : Output) → IsWritableOutput o → all_at (output_text o) ≡ Ok o
unfolding all_at
whole_again o good =
    let one : output_at (output_text o) ≡ Ok (o, []) = ap output_at (sym (append-nil (output_text o))) ∙ output_reads.again o [] good in
    rw one refl

pub unique : (a b : Output) → IsWritableOutput a → IsWritableOutput b → output_text a ≡ output_text b → a ≡ b
unique a b p q same = ok_is a b (sym (whole_again a p) ∙ (ap all_at same ∙ whole_again b q))

pub record Stuck (bytes : List ℕ) (s : Stop) : Type 0 where
  pub front : List ℕ
  pub whole : bytes ≡ front ++ s.left
  pub completed : IsWellFormed (front ++ s.missing)
  pub no_more : (b : ℕ) (more after : List ℕ) → s.left ≡ b ∷ more → (o : Output) → all_at (front ++ b ∷ after) ≡ Ok o → ⊥

pub whole_stops : (bytes : List ℕ) (s : Stop) → all_at bytes ≡ Err s → Stuck bytes s
unfolding all_at
whole_stops bytes s e = elim (bind_err (output_at bytes) all_read s e) [
  | inl first ↦
      let h = output_reads.stops bytes s first in
      record {
        front = h.front;
        whole = h.whole;
        completed = h.completed;
        no_more = λ b more after is o found.
            let a = bind_ok (output_at (h.front ++ b ∷ after)) all_read o found in
            let both = sym (h.no_more b more after is) ∙ a.1 in
            absurd cc;
      }
  | inr a ↦
      let b = ended_err (length a.0.1 == 0) a.0.0 (stop a.0.1 []) s a.2 in
      let one = output_reads.takes bytes a.0.0 a.0.1 a.1 in
      subst (Stuck bytes) b.1 (record {
        front = output_text a.0.0;
        whole = one.0;
        completed = (a.0.0, one.1, append-nil (output_text a.0.0));
        no_more = λ c more after is o found.
            let d = bind_ok (output_at (output_text a.0.0 ++ c ∷ after)) all_read o found in
            let same : (a.0.0, c ∷ after) ≡ d.0 = ok_is (a.0.0, c ∷ after) d.0 (sym (output_reads.again a.0.0 (c ∷ after) one.1) ∙ d.1) in
            let over : length d.0.1 ≡ suc (length after) = ap (λ (x : Output × List ℕ). length x.1) (sym same) in
            let f = ended_ok (length d.0.1 == 0) d.0.0 o (stop d.0.1 []) d.2 in
            let none : length d.0.1 ≡ 0 = eqb-true _ _ f.0 in
            absurd (omega (arith, over, none));
      })
]

-- a prefix longer than `front` has the next byte, too
longer : (front : List ℕ) (b : ℕ) (rest : List ℕ) (n : ℕ) (more : List ℕ) → length front < n
    → take n (front ++ b ∷ rest) ++ more ≡ front ++ b ∷ (take (n - length front - 1) rest ++ more)
longer front b rest n more lt =
    let k : n ≡ length front + suc (n - length front - 1) = omega (arith, lt) in
    let split = take-add (length front) (suc (n - length front - 1)) (front ++ b ∷ rest) in
    let taken : take n (front ++ b ∷ rest) ≡ front ++ b ∷ take (n - length front - 1) rest =
    ap (λ m. take m (front ++ b ∷ rest)) k ∙ (split ∙ rw (take_at front (b ∷ rest) (length front) refl, drop_at front (b ∷ rest) (length front) refl) refl) in
    ap (λ (l : List ℕ). l ++ more) taken ∙ append_assoc front (b ∷ take (n - length front - 1) rest) more

stuck : (bytes : List ℕ) (s : Stop) (h : Stuck bytes s) (rest : List ℕ) → s.left ≡ rest → (n : ℕ) (more : List ℕ) → length h.front < n → n ≤ length bytes → IsWellFormed (take n bytes ++ more) → ⊥
stuck bytes s h [] is n more over within good =
    absurd (omega (arith, ap length h.whole, length-append h.front s.left, ap length is))
stuck bytes s h (b ∷ rest) is n more over within good =
    let cut : take n bytes ++ more ≡ h.front ++ b ∷ (take (n - length h.front - 1) rest ++ more) =
    ap (λ (l : List ℕ). take n l ++ more) (h.whole ∙ ap (λ (l : List ℕ). h.front ++ l) is) ∙ longer h.front b rest n more over in
    h.no_more b rest (take (n - length h.front - 1) rest ++ more) is good.0 (ap all_at (sym cut ∙ good.2) ∙ whole_again good.0 good.1)

pub refused : (bytes : List ℕ) (s : Stop) → all_at bytes ≡ Err s → (left : ℕ) → length s.left ≡ left → (IsWellFormed bytes → ⊥) × IsOffset bytes (length bytes - left)
refused bytes s e left count =
    let h = whole_stops bytes s e in
    let long : length bytes ≡ length h.front + length s.left = ap length h.whole ∙ length-append h.front s.left in
    let at : length bytes - left ≡ length h.front = omega (arith, long, count) in
    let taken : take (length bytes - left) bytes ≡ h.front = rw at (ap (take (length h.front)) h.whole ∙ take_at h.front s.left (length h.front) refl) in
    let text : completion bytes ≡ s.missing = ap missing_of e in (
      λ good. let found = sym e ∙ (ap all_at good.2 ∙ whole_again good.0 good.1) in absurd cc,
      record {
        within = omega arith;
        begins = subst IsWellFormed (ap (λ (l : List ℕ). l ++ s.missing) (sym taken) ∙ ap (λ (l : List ℕ). take (length bytes - left) bytes ++ l) (sym text)) h.completed;
        no_longer = λ n more over within good. stuck bytes s h (s.left) refl n more (omega (arith, over, at)) within good;
      },
    )

-- if reading stopped, its result is a stop with this many bytes left
stop_of : (bytes : List ℕ) (left : ℕ) (r : Result Output Stop) → StoppedAt left r → (s : Stop) × (r ≡ Err s) × (length s.left ≡ left)
stop_of bytes left (Ok o) is = elim is [ ]
stop_of bytes left (Err s) is = (s, refl, is)

pub left_fits : (bytes : List ℕ) (left : ℕ) → StoppedAt left (all_at bytes) → left ≤ length bytes
left_fits bytes left is =
    let a = stop_of bytes left (all_at bytes) is in
    let h = whole_stops bytes a.0 a.1 in
    omega (arith, ap length h.whole, length-append h.front a.0.left, a.2)

pub refused_at : (bytes : List ℕ) (left : ℕ) → StoppedAt left (all_at bytes) → (IsWellFormed bytes → ⊥) × IsOffset bytes (length bytes - left)
refused_at bytes left is =
    let a = stop_of bytes left (all_at bytes) is in
    refused bytes a.0 a.1 left a.2

-- if reading a prefix of a well-formed text stops, the missing text completes this prefix
completed_from : (front more : List ℕ) (good : IsWellFormed (front ++ more)) (s : Stop) → all_at front ≡ Err s → (rest : List ℕ) → s.left ≡ rest → IsWellFormed (front ++ s.missing)
completed_from front more good s e [] is =
    let h = whole_stops front s e in
    let same : front ≡ h.front = h.whole ∙ (ap (λ (l : List ℕ). h.front ++ l) is ∙ append-nil h.front) in
    subst IsWellFormed (ap (λ (l : List ℕ). l ++ s.missing) (sym same)) h.completed
completed_from front more good s e (b ∷ rest) is =
    let h = whole_stops front s e in
    let text : front ++ more ≡ h.front ++ b ∷ (rest ++ more) =
    ap (λ (l : List ℕ). l ++ more) (h.whole ∙ ap (λ (l : List ℕ). h.front ++ l) is) ∙ append_assoc h.front (b ∷ rest) more in
    absurd (h.no_more b rest (rest ++ more) is good.0 (ap all_at (sym text ∙ good.2) ∙ whole_again good.0 good.1))

completed_by : (front more : List ℕ) → IsWellFormed (front ++ more) → (r : Result Output Stop) → all_at front ≡ r → IsWellFormed (front ++ missing_of r)
completed_by front more good (Ok o) e =
    let w = whole_takes front o e in
    (o, w.0, append-nil front ∙ w.1)
completed_by front more good (Err s) e = completed_from front more good s e s.left refl

pub completes : (front more : List ℕ) → IsWellFormed (front ++ more) → IsWellFormed (front ++ completion front)
completes front more good = completed_by front more good (all_at front) refl

le_or_lt : (n m : ℕ) → (n ≤ m) ⊎ (m < n)
le_or_lt n m = elim (leb_tells n m) [
  | inl is ↦ inl is.1
  | inr other ↦ inr other.1
]

-- no offset n of the bytes exceeds another offset m: otherwise m wouldn't be the length of the longest prefix
no_less : (bytes : List ℕ) (m n : ℕ) → IsOffset bytes m → IsOffset bytes n → n ≤ m
no_less bytes m n one two = elim (le_or_lt n m) [
  | inl le ↦ le
  | inr lt ↦ absurd (one.no_longer n (completion bytes) lt two.within two.begins)
]

pub one_offset : (bytes : List ℕ) (m n : ℕ) → IsOffset bytes m → IsOffset bytes n → m ≡ n
one_offset bytes m n one two =
    let up = no_less bytes m n one two in
    let down = no_less bytes n m two one in
    omega (arith, up, down)

pub read_again : (o : Output) (read : Result Output CertificateFault) → IsWritableOutput o → ReadsOutput (output_text o) read → (read ≡ Ok o) ⊎ (read ≡ Err faults.Memory)
read_again o (Ok p) fits good = inl (ap (λ (x : Output). Ok x) (unique p o good.0 fits (sym good.1)))
read_again o (Err faults.Memory) fits good = inr refl
read_again o (Err (faults.Malformed n)) fits good = absurd (good.0 (o, fits, refl))
