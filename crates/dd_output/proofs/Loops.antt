-- Loops that read one entry after another.
use Rattle.std.proofs.Common.{◌≡◌, ℕ, suc, ◌<◌, List, [], ◌∷◌, ◌++◌, length, length-append, Result, Ok, Err, refl, sym, ap, append_assoc, arith}
use Rattle.dd_output.specs.declared.fault.ReadFault.{ReadFault}
use Rattle.dd_output.specs.declared.fault.ReadFault.TheVariants as faults
use Rattle.dd_output.specs.reading.Stops.{Stop, Read, ◌>>=◌, Fails, Entry, item, entries_at, before}

-- the items that were read before, and then what is still to be read
abbrev pub with_front : {A B : Type 0} → List A → Read (List A × B) → Read (List A × B)
with_front front read = read >>= λ o. Ok ((front ++ o.0.0, o.0.1), o.1)

regroup : {A B : Type 0} (front : List A) (x : A) (read : Read (List A × B))
    → with_front front (read >>= λ o. Ok ((x ∷ o.0.0, o.0.1), o.1)) ≡ with_front (front ++ x ∷ []) read
regroup {A} {B} front x (Ok o) = ap (λ (l : List A). Ok ((l, o.0.1), o.1)) (sym (append_assoc front (x ∷ []) o.0.0))
regroup front x (Err s) = refl

-- once an item is read, fewer bytes are left, and the list is this item and then the rest of the list
pub record Unrolls {A B : Type 0} (entry : ℕ → List ℕ → Read (Entry A B)) : Type 0 where
  pub shorter : (k : ℕ) (bytes : List ℕ) (x : A) (rest : List ℕ) → entry k bytes ≡ Ok (item x, rest) → length rest < length bytes
  pub unrolled : (k : ℕ) (bytes : List ℕ) (x : A) (rest : List ℕ) → entry k bytes ≡ Ok (item x, rest)
      → entries_at entry k bytes ≡ (entries_at entry (suc k) rest >>= λ o. Ok ((x ∷ o.0.0, o.0.1), o.1))

pub goes_on : {A B : Type 0} (entry : ℕ → List ℕ → Read (Entry A B)) → Unrolls entry → (front : List A) (bytes : List ℕ) (x : A) (rest : List ℕ) (total : Read (List A × B))
    → entry (length front) bytes ≡ Ok (item x, rest) → with_front front (entries_at entry (length front) bytes) ≡ total
    → with_front (front ++ x ∷ []) (entries_at entry (length (front ++ x ∷ [])) rest) ≡ total
goes_on entry law front bytes x rest total is so_far =
    let long : length (front ++ x ∷ []) ≡ suc (length front) = omega (arith, length-append front (x ∷ [])) in
    rw (long, ← regroup front x (entries_at entry (suc (length front)) rest), ← law.unrolled (length front) bytes x rest is) so_far

-- if a reader fails, a longer reader that begins with it fails in the same way
pub fails_then : {A B : Type 0} (e : ReadFault) (r : Result A Stop) (f : A → Result B Stop) → Fails e r → Fails e (r >>= f)
fails_then faults.Memory r f is = tt
fails_then (faults.Stopped n) (Ok x) f is = elim is [ ]
fails_then (faults.Stopped n) (Err s) f is = is

pub fails_before : {A : Type 0} (e : ReadFault) (r : Result A Stop) (d : List ℕ) → Fails e r → Fails e (before d r)
fails_before faults.Memory r d is = tt
fails_before (faults.Stopped n) (Ok x) d is = elim is [ ]
fails_before (faults.Stopped n) (Err s) d is = is
