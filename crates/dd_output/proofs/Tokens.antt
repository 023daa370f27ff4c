-- The laws of words and raw bytes.
use Rattle.std.proofs.Common.{◌≡◌, ℕ, ◌-◌, ◌<◌, ◌≤◌, List, [], ◌∷◌, ◌++◌, length, take, drop, Result, Ok, Err, Bool, true, false, cond, ◌⊎◌, inl, inr, refl, sym, ap, subst, ◌∙◌, append_assoc, arith}
use Rattle.std.specs.Prelude.{◌==◌, nat_le, replicate}
use Rattle.std.proofs.lemmas.Bool.{eqb-true, eq-eqb, leb-true, le-leb, leb-false}
use Rattle.std.proofs.lemmas.List.{append-nil, take-append-drop, take_at, drop_at, length-append, length-replicate, length-take}
use Rattle.dd_output.specs.reading.Stops.{Stop, stop, Read, before, word_at, bytes_at, after_at}
use Rattle.dd_output.proofs.Readers.{Halts, Reads, ok_is, bind_ok, bind_err, before_ok, before_err}

pub chosen_ok : {A : Type 0} (b : Bool) (r : Result A Stop) (d : Stop) (y : A) → cond b r (Err d) ≡ Ok y → (b ≡ true) × (r ≡ Ok y)
chosen_ok true r d y e = (refl, e)
chosen_ok false r d y e = absurd cc

pub chosen_err : {A : Type 0} (b : Bool) (r : Result A Stop) (d s : Stop) → cond b r (Err d) ≡ Err s → ((b ≡ true) × (r ≡ Err s)) ⊎ ((b ≡ false) × (d ≡ s))
chosen_err true r d s e = inl (refl, e)
chosen_err false r d s e = inr (refl, cc)

-- ---- words

word_takes : (w bytes : List ℕ) (u : Unit {0}) (rest : List ℕ) → word_at w bytes ≡ Ok (u, rest) → bytes ≡ w ++ rest
word_takes [] bytes u rest e = ap (λ (p : Unit {0} × List ℕ). p.1) (ok_is (tt, bytes) (u, rest) e)
word_takes (w ∷ ws) [] u rest e = absurd cc
word_takes (w ∷ ws) (b ∷ bytes) u rest e =
    let p = chosen_ok (b == w) (word_at ws bytes) (stop (b ∷ bytes) (w ∷ ws)) (u, rest) e in
    let same : b ≡ w = eqb-true b w p.0 in
    let more : bytes ≡ ws ++ rest = word_takes ws bytes u rest p.1 in
    cc

word_again : (w rest : List ℕ) → word_at w (w ++ rest) ≡ Ok (tt, rest)
word_again [] rest = refl
word_again (w ∷ ws) rest = rw (eq-eqb w w refl) (word_again ws rest)

word_halts : (w bytes : List ℕ) (s : Stop) → word_at w bytes ≡ Err s → Halts (λ text. text ≡ w) (word_at w) bytes s
word_halts [] bytes s e = absurd cc
word_halts (w ∷ ws) [] s e =
    let is : stop [] (w ∷ ws) ≡ s = cc in
    subst (Halts (λ text. text ≡ w ∷ ws) (word_at (w ∷ ws)) []) is (record { front = []; whole = refl; completed = refl; no_more = λ b more after i. absurd cc })
word_halts (w ∷ ws) (b ∷ bytes) s e = elim (chosen_err (b == w) (word_at ws bytes) (stop (b ∷ bytes) (w ∷ ws)) s e) [
  | inl p ↦
      let same : b ≡ w = eqb-true b w p.0 in
      let h = word_halts ws bytes s p.1 in
      record {
        front = w ∷ h.front;
        whole = rw (same) (ap (λ (l : List ℕ). w ∷ l) h.whole);
        completed = ap (λ (l : List ℕ). w ∷ l) h.completed;
        no_more = λ c more after i. rw (eq-eqb w w refl) (h.no_more c more after i);
      }
  | inr p ↦
      subst (Halts (λ text. text ≡ w ∷ ws) (word_at (w ∷ ws)) (b ∷ bytes)) p.1 (record {
        front = [];
        whole = refl;
        completed = refl;
        no_more = λ c more after i.
            let same : c ≡ b = cc in
            rw (same, p.0) refl;
      })
]

pub word_reads : (w : List ℕ) → Reads (λ _. Unit {0}) (λ _. w) (λ text. text ≡ w) (word_at w)
word_reads w = record {
  takes = λ bytes x rest e. (word_takes w bytes x rest e, tt);
  again = λ x rest fits. word_again w rest;
  stops = λ bytes s e. word_halts w bytes s e;
}

pub after_reads : {A : Type 0} (F : A → Type 0) (t : A → List ℕ) (C D : List ℕ → Type 0) (r : List ℕ → Read A) (w least : List ℕ) → Reads F t C r
    → D (w ++ least) → ((text : List ℕ) → C text → D (w ++ text)) → Reads F (λ x. w ++ t x) D (after_at w least r)
after_reads {A} F t C D r w least law short more =
    let next : Unit {0} × List ℕ → Read A = λ x. r x.1 in
    record {
      takes = λ bytes x rest e.
          let a = bind_ok (before least (word_at w bytes)) next (x, rest) e in
          let one = word_takes w bytes a.0.0 a.0.1 (before_ok least (word_at w bytes) a.0 a.1) in
          let two = law.takes a.0.1 x rest a.2 in
          (one ∙ ap (λ (l : List ℕ). w ++ l) two.0 ∙ sym (append_assoc w (t x) rest), two.1);
      again = λ x rest fits. rw (append_assoc w (t x) rest, word_again w (t x ++ rest)) (law.again x rest fits);
      stops = λ bytes s e. elim (bind_err (before least (word_at w bytes)) next s e) [
        | inl first ↦
            let b = before_err least (word_at w bytes) s first in
            let z = b.0 in
            let h = word_halts w bytes z b.1 in
            subst (Halts D (after_at w least r) bytes) b.2 (record {
              front = h.front;
              whole = h.whole;
              completed = subst D (ap (λ (l : List ℕ). l ++ least) (sym h.completed) ∙ append_assoc h.front z.missing least) short;
              no_more = λ b more after is. rw (h.no_more b more after is) refl;
            })
        | inr a ↦
            let one = word_takes w bytes a.0.0 a.0.1 (before_ok least (word_at w bytes) a.0 a.1) in
            let h = law.stops a.0.1 s a.2 in
            record {
              front = w ++ h.front;
              whole = one ∙ ap (λ (l : List ℕ). w ++ l) h.whole ∙ sym (append_assoc w h.front s.left);
              completed = subst D (sym (append_assoc w h.front s.missing)) (more (h.front ++ s.missing) h.completed);
              no_more = λ b more after is. rw (append_assoc w h.front (b ∷ after), word_again w (h.front ++ b ∷ after)) (h.no_more b more after is);
            }
      ];
    }

-- ---- raw bytes

pub bytes_reads : (count : ℕ) → Reads (λ x. length x ≡ count) (λ x. x) (λ text. length text ≡ count) (bytes_at count)
bytes_reads count = record {
  takes = λ bytes x rest e.
      let p = chosen_ok (nat_le count (length bytes)) (Ok (take count bytes, drop count bytes)) (stop [] (replicate (count - length bytes) 0)) (x, rest) e in
      let long : count ≤ length bytes = leb-true _ _ p.0 in
      let is = ok_is (take count bytes, drop count bytes) (x, rest) p.1 in
      subst (λ (o : List ℕ × List ℕ). (bytes ≡ o.0 ++ o.1) × (length o.0 ≡ count)) is
      (sym (take-append-drop count bytes), omega (arith, length-take count bytes));
  again = λ x rest fits.
      let long : nat_le count (length (x ++ rest)) ≡ true = le-leb _ _ (omega (arith, length-append x rest, fits)) in
      rw (long, take_at x rest count fits, drop_at x rest count fits) refl;
  stops = λ bytes s e. elim (chosen_err (nat_le count (length bytes)) (Ok (take count bytes, drop count bytes)) (stop [] (replicate (count - length bytes) 0)) s e) [
    | inl p ↦ absurd cc
    | inr p ↦
        let short : length bytes < count = leb-false _ _ p.0 in
        subst (Halts (λ text. length text ≡ count) (bytes_at count) bytes) p.1 (record {
          front = bytes;
          whole = sym (append-nil bytes);
          completed = omega (arith, length-append bytes (replicate (count - length bytes) 0), length-replicate {A = ℕ} (count - length bytes) 0);
          no_more = λ b more after is. absurd cc;
        })
  ];
}
