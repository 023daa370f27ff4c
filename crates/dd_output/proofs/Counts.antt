-- Some readers are given the text that has to follow what they read. The value that is read, and the place where reading stops, don't depend on this
-- text. The second part of this file is about loops that read a given number of values.
use Rattle.std.proofs.Common.{◌≡◌, ℕ, suc, ◌+◌, ◌-◌, ◌*◌, ◌<◌, List, [], ◌∷◌, ◌++◌, length, Result, Ok, Err, Bool, true, false, cond, refl, sym, ap, ◌∙◌, append_assoc, arith}
use Rattle.std.specs.Prelude.{◌==◌, ◌||◌, ℤ, Option}
use Rattle.dd_certificate.specs.Bounds.{most_number}
use Rattle.dd_output.specs.declared.fault.ReadFault.{ReadFault}
use Rattle.dd_output.specs.reading.Stops.{Stop, Read, ◌>>=◌, before, Gives, Fails, goes_on, starts, digits_at, number_at, copies, many_at, begins, word_at}
use Rattle.dd_output.specs.reading.Lists.{minus_of, plus_of, signed_at}
use Rattle.dd_output.specs.reading.Stars.{end_byte_at, star_of, symbol_of, symbol_or_star_at}
use Rattle.dd_output.proofs.Loops.{fails_then, fails_before}
use Rattle.dd_output.specs.declared.fault.ReadFault.TheVariants as faults

-- two results of reading one input, which differ at most in the missing text
abbrev Alike : {A : Type 0} → Result A Stop → Result A Stop → Type 0
Alike (Ok x) (Ok y) = x ≡ y
Alike (Ok x) (Err s) = ⊥
Alike (Err s) (Ok y) = ⊥
Alike (Err s) (Err z) = s.left ≡ z.left

alike_cond : {A : Type 0} (b : Bool) (r q w z : Result A Stop) → Alike r w → Alike q z → Alike (cond b r q) (cond b w z)
alike_cond true r q w z p o = p
alike_cond false r q w z p o = o

digits_alike : (bound end other : ℕ) (after more : ℕ → List ℕ) (n : ℕ) (bytes : List ℕ) → Alike (digits_at bound end other after n bytes) (digits_at bound end other more n bytes)
digits_alike bound end other after more n [] = refl
digits_alike bound end other after more n (b ∷ bytes) =
    alike_cond (b == end || b == other) _ _ _ _ refl
    (alike_cond (goes_on bound n b) _ _ _ _ (digits_alike bound end other after more (n * 10 + (b - 48)) bytes) refl)

number_alike : (low bound end other : ℕ) (after more : ℕ → List ℕ) (bytes : List ℕ) → Alike (number_at low bound end other after bytes) (number_at low bound end other more bytes)
number_alike low bound end other after more [] = refl
number_alike low bound end other after more (b ∷ bytes) =
    alike_cond (starts low bound b) _ _ _ _ (digits_alike bound end other after more (b - 48) bytes) refl

fails_alike : {A : Type 0} (e : ReadFault) (r q : Result A Stop) → Alike r q → Fails e r → Fails e q
fails_alike faults.Memory r q same is = tt
fails_alike (faults.Stopped n) (Ok x) q same is = elim is [ ]
fails_alike (faults.Stopped n) (Err s) (Ok y) same is = elim same [ ]
fails_alike (faults.Stopped n) (Err s) (Err z) same is = ap length (sym same) ∙ is

ok_alike : {A : Type 0} (x : A) (r q : Result A Stop) → Alike r q → r ≡ Ok x → q ≡ Ok x
ok_alike x (Ok y) (Ok z) same is = cc
ok_alike x (Ok y) (Err s) same is = elim same [ ]
ok_alike x (Err s) q same is = absurd cc

gives_alike : {X A : Type 0} (view : X → A) (result : Result X ReadFault) (r q : Result A Stop) → Alike r q → Gives view result r → Gives view result q
gives_alike view (Ok x) r q same is = ok_alike (view x) r q same is
gives_alike view (Err e) r q same is = fails_alike e r q same is

pub number_any : {X : Type 0} (view : X → (ℕ × ℕ) × List ℕ) (result : Result X ReadFault) (low bound end other : ℕ) (after : ℕ → List ℕ) (bytes : List ℕ)
    → Gives view result (number_at low bound end other (λ _. []) bytes) → Gives view result (number_at low bound end other after bytes)
number_any view result low bound end other after bytes = gives_alike view result _ _ (number_alike low bound end other (λ _. []) after bytes)

map_alike : {A B : Type 0} (f : A → B) (r q : Read A) → Alike r q → Alike {A = B × List ℕ} (r >>= λ x. Ok (f x.0, x.1)) (q >>= λ x. Ok (f x.0, x.1))
map_alike f (Ok x) (Ok y) same = ap (λ o. (f o.0, o.1)) same
map_alike f (Ok x) (Err s) same = elim same [ ]
map_alike f (Err s) (Ok y) same = elim same [ ]
map_alike f (Err s) (Err z) same = same

then_alike : {A B : Type 0} (d e : List ℕ) (w : Result A Stop) (r q : A → Result B Stop) → ((x : A) → Alike (r x) (q x)) → Alike (before d w >>= r) (before e w >>= q)
then_alike d e (Ok x) r q same = same x
then_alike d e (Err s) r q same = refl

signed_alike : (bound end other : ℕ) (rest more bytes : List ℕ) → Alike (signed_at bound end other rest bytes) (signed_at bound end other more bytes)
unfolding signed_at
signed_alike bound end other rest more bytes =
    alike_cond (begins 45 bytes) _ _ _ _
    (map_alike minus_of _ _ (then_alike (49 ∷ end ∷ rest) (49 ∷ end ∷ more) (word_at (45 ∷ []) bytes)
    (λ x. number_at 1 bound end other (λ _. rest) x.1) (λ x. number_at 1 bound end other (λ _. more) x.1)
    (λ x. number_alike 1 bound end other (λ _. rest) (λ _. more) x.1)))
    (map_alike plus_of _ _ (number_alike 0 bound end other (λ _. rest) (λ _. more) bytes))

pub signed_any : {X : Type 0} (view : X → (ℤ × ℕ) × List ℕ) (result : Result X ReadFault) (bound end other : ℕ) (rest bytes : List ℕ)
    → Gives view result (signed_at bound end other [] bytes) → Gives view result (signed_at bound end other rest bytes)
signed_any view result bound end other rest bytes = gives_alike view result _ _ (signed_alike bound end other [] rest bytes)

byte_alike : (end other : ℕ) (rest more bytes : List ℕ) → Alike (end_byte_at end other rest bytes) (end_byte_at end other more bytes)
byte_alike end other rest more [] = refl
byte_alike end other rest more (b ∷ bytes) = alike_cond (b == end || b == other) _ _ _ _ refl refl

symbol_or_star_alike : (end other : ℕ) (rest more bytes : List ℕ) → Alike (symbol_or_star_at end other rest bytes) (symbol_or_star_at end other more bytes)
unfolding symbol_or_star_at
symbol_or_star_alike end other rest more bytes =
    alike_cond (begins 42 bytes) _ _ _ _
    (map_alike star_of _ _ (then_alike (end ∷ rest) (end ∷ more) (word_at (42 ∷ []) bytes)
    (λ x. end_byte_at end other rest x.1) (λ x. end_byte_at end other more x.1)
    (λ x. byte_alike end other rest more x.1)))
    (map_alike symbol_of _ _ (number_alike 0 most_number end other (λ _. rest) (λ _. more) bytes))

pub symbol_or_star_any : {X : Type 0} (view : X → (Option ℕ × ℕ) × List ℕ) (result : Result X ReadFault) (end other : ℕ) (rest bytes : List ℕ)
    → Gives view result (symbol_or_star_at end other [] bytes) → Gives view result (symbol_or_star_at end other rest bytes)
symbol_or_star_any view result end other rest bytes = gives_alike view result _ _ (symbol_or_star_alike end other [] rest bytes)

-- ---- loops that read a given number of values

abbrev pub with_all : {A : Type 0} → List A → Read (List A) → Read (List A)
with_all front read = read >>= λ x. Ok (front ++ x.0, x.1)

-- a value, and the values after it
abbrev beside : {A : Type 0} → A → List A × List ℕ → Read (A × List A)
beside x b = Ok ((x, b.0), b.1)

abbrev in_front : {A : Type 0} → (A × List A) × List ℕ → Read (List A)
in_front p = Ok (p.0.0 ∷ p.0.1, p.1)

rejoin : {A : Type 0} (front : List A) (x : A) (read : Read (List A)) → with_all front ((read >>= beside x) >>= in_front) ≡ with_all (front ++ x ∷ []) read
rejoin {A} front x (Ok o) = ap (λ (l : List A). Ok (l, o.1)) (sym (append_assoc front (x ∷ []) o.0))
rejoin front x (Err s) = refl

pub many_on : {A : Type 0} (one : List ℕ → Read A) (least : List ℕ) (front : List A) (count i : ℕ) (bytes : List ℕ) (x : A) (after : List ℕ) (total : Read (List A)) → i < count
    → one bytes ≡ Ok (x, after) → with_all front (many_at one least (count - i) bytes) ≡ total → with_all (front ++ x ∷ []) (many_at one least (count - (i + 1)) after) ≡ total
many_on one least front count i bytes x after total lt is so_far =
    let k : count - i ≡ suc (count - (i + 1)) = omega arith in
    let step : with_all front (many_at one least (count - i) bytes) ≡ with_all (front ++ x ∷ []) (many_at one least (count - (i + 1)) after) =
    rw (k, is) (rejoin front x (many_at one least (count - (i + 1)) after)) in
    sym step ∙ so_far

pub many_fails : {A : Type 0} (e : ReadFault) (one : List ℕ → Read A) (least : List ℕ) (front : List A) (count i : ℕ) (bytes : List ℕ) (total : Read (List A)) → i < count
    → Fails e (one bytes) → with_all front (many_at one least (count - i) bytes) ≡ total → Fails e total
many_fails e one least front count i bytes total lt is so_far =
    let k : count - i ≡ suc (count - (i + 1)) = omega arith in
    let step : Fails e (with_all front (many_at one least (suc (count - (i + 1))) bytes)) =
    fails_then e _ _ (fails_then e _ _ (fails_then e (before (copies (count - (i + 1)) least) (one bytes)) _ (fails_before e (one bytes) _ is))) in
    rw (← so_far, k) step
