-- The law of lists that continue as long as the next entry is an item.
use Rattle.std.proofs.Common.{◌≡◌, ℕ, zero, suc, ◌<◌, List, [], ◌∷◌, ◌++◌, length, Result, Ok, Err, inl, inr, refl, sym, ap, subst, ◌∙◌, append_assoc, length-append, arith}
use Rattle.dd_output.specs.reading.Stops.{Stop, stop, Read, ◌>>=◌, Entry, item, last, next_at, until_at, entries_at}
use Rattle.dd_output.proofs.Loops.{Unrolls}
use Rattle.dd_output.proofs.Readers.{Halts, Reads, bind_ok, bind_err, ok_is}

-- the text of such a list, from index k on
abbrev pub entries_text : {A B : Type 0} → (ℕ → A → List ℕ) → (ℕ → B → List ℕ) → ℕ → List A → B → List ℕ
entries_text t u k [] y = u k y
entries_text t u k (x ∷ xs) y = t k x ++ entries_text t u (suc k) xs y

-- each entry fits its index
abbrev pub AllFrom : {A B : Type 0} → (ℕ → A → Type 0) → (ℕ → B → Type 0) → ℕ → List A → B → Type 0
AllFrom F G k [] y = G k y
AllFrom F G k (x ∷ xs) y = F k x × AllFrom F G (suc k) xs y

-- the entry fits at index k
abbrev pub entry_fits : {A B : Type 0} → (ℕ → A → Type 0) → (ℕ → B → Type 0) → ℕ → Entry A B → Type 0
entry_fits F G k (item x) = F k x
entry_fits F G k (last y) = G k y

-- the text of an entry at index k
abbrev pub entry_text : {A B : Type 0} → (ℕ → A → List ℕ) → (ℕ → B → List ℕ) → ℕ → Entry A B → List ℕ
entry_text t u k (item x) = t k x
entry_text t u k (last y) = u k y

bind_same : {A B : Type 0} (r : Result A Stop) (f g : A → Result B Stop) → ((x : A) → r ≡ Ok x → f x ≡ g x) → (r >>= f) ≡ (r >>= g)
bind_same (Ok x) f g same = same x refl
bind_same (Err s) f g same = refl

module _ {A B : Type 0} (F : ℕ → A → Type 0) (t : ℕ → A → List ℕ) (G : ℕ → B → Type 0) (u : ℕ → B → List ℕ) (C : ℕ → List ℕ → Type 0)
    (entry : ℕ → List ℕ → Read (Entry A B))
    (law : (k : ℕ) → Reads (entry_fits F G k) (entry_text t u k) (C k) (entry k))
    (some : (k : ℕ) (x : A) → F k x → 0 < length (t k x))
    (more : (k : ℕ) (x : A) (text : List ℕ) → F k x → C (suc k) text → C k (t k x ++ text)) where
  shorter : (k : ℕ) (bytes : List ℕ) (x : A) (rest : List ℕ) → entry k bytes ≡ Ok (item x, rest) → length rest < length bytes
  shorter k bytes x rest e =
      let one = (law k).takes bytes (item x) rest e in
      omega (arith, ap length one.0, length-append (t k x) rest, some k x one.1)

  -- one step of the induction in `until_same`: the claim for the rest is given
  next_same : (f g k : ℕ) (bytes : List ℕ)
      → ((rest : List ℕ) → length rest < f → length rest < g → until_at entry (suc k) f rest ≡ until_at entry (suc k) g rest)
      → length bytes < suc f → length bytes < suc g → (x : Entry A B × List ℕ) → entry k bytes ≡ Ok x
      → next_at (until_at entry (suc k) f) x ≡ next_at (until_at entry (suc k) g) x
  next_same f g k bytes ih p q (item x, rest) e =
      let short = shorter k bytes x rest e in
      rw (ih rest (omega (arith, short)) (omega (arith, short))) refl
  next_same f g k bytes ih p q (last y, rest) e = refl

  until_same : (f g k : ℕ) (bytes : List ℕ) → length bytes < f → length bytes < g → until_at entry k f bytes ≡ until_at entry k g bytes
  until_same zero g k bytes p q = absurd (omega arith)
  until_same (suc f) zero k bytes p q = absurd (omega arith)
  until_same (suc f) (suc g) k bytes p q =
      bind_same (entry k bytes) (next_at (until_at entry (suc k) f)) (next_at (until_at entry (suc k) g))
      (next_same f g k bytes (until_same f g (suc k)) p q)

  -- if the first entry is an item, the list is this item and then the rest
  unrolled_item : (k : ℕ) (bytes : List ℕ) (x : A) (rest : List ℕ) → entry k bytes ≡ Ok (item x, rest)
      → entries_at entry k bytes ≡ (entries_at entry (suc k) rest >>= λ o. Ok ((x ∷ o.0.0, o.0.1), o.1))
  unrolled_item k bytes x rest e =
      let short = shorter k bytes x rest e in
      rw (e, until_same (length bytes) (suc (length rest)) (suc k) rest (omega (arith, short)) (omega arith)) refl

  pub unrolls : Unrolls entry
  unrolls = record { shorter = shorter; unrolled = unrolled_item }

  pub unrolled_last : (k : ℕ) (bytes : List ℕ) (y : B) (rest : List ℕ) → entry k bytes ≡ Ok (last y, rest)
      → entries_at entry k bytes ≡ Ok (([], y), rest)
  unrolled_last k bytes y rest e = rw e refl

  pub unrolled_stop : (k : ℕ) (bytes : List ℕ) (s : Stop) → entry k bytes ≡ Err s → entries_at entry k bytes ≡ Err s
  unrolled_stop k bytes s e = rw e refl

  entries_again : (xs : List A) (k : ℕ) (y : B) (rest : List ℕ) → AllFrom F G k xs y → entries_at entry k (entries_text t u k xs y ++ rest) ≡ Ok ((xs, y), rest)
  entries_again [] k y rest good = unrolled_last k (u k y ++ rest) y rest ((law k).again (last y) rest good)
  entries_again (x ∷ xs) k y rest good =
      let tail = entries_text t u (suc k) xs y in
      ap (entries_at entry k) (append_assoc (t k x) tail rest)
      ∙ (unrolled_item k (t k x ++ (tail ++ rest)) x (tail ++ rest) ((law k).again (item x) (tail ++ rest) good.0)
      ∙ rw (entries_again xs (suc k) y rest good.1) refl)

  -- the bytes are the text of the entries and then what is left, and each entry fits
  Taken : ℕ → List ℕ → (List A × B) × List ℕ → Type 0
  Taken k bytes o = (bytes ≡ entries_text t u k o.0.0 o.0.1 ++ o.1) × AllFrom F G k o.0.0 o.0.1

  next_takes : (f k : ℕ) (bytes : List ℕ) (o : (List A × B) × List ℕ)
      → ((bytes : List ℕ) (o : (List A × B) × List ℕ) → until_at entry (suc k) f bytes ≡ Ok o → Taken (suc k) bytes o)
      → (a : Entry A B × List ℕ) → entry k bytes ≡ Ok a → next_at (until_at entry (suc k) f) a ≡ Ok o → Taken k bytes o
  unfolding Taken
  next_takes f k bytes o ih (item x, rest) e is =
      let b = bind_ok (until_at entry (suc k) f rest) (λ o. Ok ((x ∷ o.0.0, o.0.1), o.1)) o is in
      let one = (law k).takes bytes (item x) rest e in
      let two = ih rest b.0 b.1 in
      let tail = entries_text t u (suc k) b.0.0.0 b.0.0.1 in
      subst (Taken k bytes) (ok_is ((x ∷ b.0.0.0, b.0.0.1), b.0.1) o b.2)
      (one.0 ∙ (ap (λ (l : List ℕ). t k x ++ l) two.0 ∙ sym (append_assoc (t k x) tail b.0.1)), (one.1, two.1))
  next_takes f k bytes o ih (last y, rest) e is =
      subst (Taken k bytes) (ok_is (([], y), rest) o is) ((law k).takes bytes (last y) rest e)

  until_takes : (f k : ℕ) (bytes : List ℕ) (o : (List A × B) × List ℕ) → until_at entry k f bytes ≡ Ok o → Taken k bytes o
  until_takes zero k bytes o e = absurd cc
  until_takes (suc f) k bytes o e =
      let a = bind_ok (entry k bytes) (next_at (until_at entry (suc k) f)) o e in
      next_takes f k bytes o (until_takes f (suc k)) a.0 a.1 a.2

  next_halts : (f k : ℕ) (bytes : List ℕ) (s : Stop) → length bytes < suc f
      → ((bytes : List ℕ) → length bytes < f → until_at entry (suc k) f bytes ≡ Err s → Halts (C (suc k)) (entries_at entry (suc k)) bytes s)
      → (a : Entry A B × List ℕ) → entry k bytes ≡ Ok a → next_at (until_at entry (suc k) f) a ≡ Err s → Halts (C k) (entries_at entry k) bytes s
  next_halts f k bytes s long ih (item x, rest) e is = elim (bind_err (until_at entry (suc k) f rest) (λ o. Ok ((x ∷ o.0.0, o.0.1), o.1)) s is) [
    | inl stops ↦
        let one = (law k).takes bytes (item x) rest e in
        let short = shorter k bytes x rest e in
        let h = ih rest (omega (arith, short)) stops in
        record {
          front = t k x ++ h.front;
          whole = one.0 ∙ (ap (λ (l : List ℕ). t k x ++ l) h.whole ∙ sym (append_assoc (t k x) h.front s.left));
          completed = subst (C k) (sym (append_assoc (t k x) h.front s.missing)) (more k x (h.front ++ s.missing) one.1 h.completed);
          no_more = λ b others after i.
              let tail = h.front ++ b ∷ after in
              ap (entries_at entry k) (append_assoc (t k x) h.front (b ∷ after))
              ∙ (unrolled_item k (t k x ++ tail) x tail ((law k).again (item x) tail one.1)
              ∙ rw (h.no_more b others after i) refl);
        }
    | inr b ↦ absurd cc
  ]
  next_halts f k bytes s long ih (last y, rest) e is = absurd cc

  until_halts : (f k : ℕ) (bytes : List ℕ) (s : Stop) → length bytes < f → until_at entry k f bytes ≡ Err s → Halts (C k) (entries_at entry k) bytes s
  until_halts zero k bytes s long e = absurd (omega arith)
  until_halts (suc f) k bytes s long e = elim (bind_err (entry k bytes) (next_at (until_at entry (suc k) f)) s e) [
    | inl first ↦
        let h = (law k).stops bytes s first in
        record {
          front = h.front;
          whole = h.whole;
          completed = h.completed;
          no_more = λ b others after i. unrolled_stop k (h.front ++ b ∷ after) (stop (b ∷ after) s.missing) (h.no_more b others after i);
        }
    | inr a ↦ next_halts f k bytes s long (λ bytes. until_halts f (suc k) bytes s) a.0 a.1 a.2
  ]

  pub entries_reads : (k : ℕ) → Reads (λ x. AllFrom F G k x.0 x.1) (λ x. entries_text t u k x.0 x.1) (C k) (entries_at entry k)
  unfolding Taken
  entries_reads k = record {
    takes = λ bytes x rest e. until_takes (suc (length bytes)) k bytes (x, rest) e;
    again = λ x rest good. entries_again x.0 k x.1 rest good;
    stops = λ bytes s e. until_halts (suc (length bytes)) k bytes s (omega arith) e;
  }
