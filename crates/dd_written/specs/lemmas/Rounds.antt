-- Reading items one after another, as a loop does.
use Rattle.std.proofs.Common.{◌≡◌, ℕ, zero, suc, true, false, Bool, ◌-◌, ◌+◌, ◌<◌, List, [], ◌∷◌, ◌++◌, Option, Some, None, refl, sym, ap, ◌∙◌, append_assoc, arith}
use Rattle.std.proofs.lemmas.List.{append-nil}
use Rattle.dd_written.specs.{Tree.Lexeme, reading.Readers.◌>>=◌, reading.Readers.Reader, reading.Readers.many, reading.Readers.with_front}

-- the next item may be counted as the last of the items that were read before
pub regroup : {X : Type 0} (front : List X) (f : X) (read : Option (List X × List Lexeme)) → with_front front (read >>= λ x. Some (f ∷ x.0, x.1)) ≡ with_front (front ++ f ∷ []) read
regroup {X} front f (Some x) = ap (λ (fs : List X). Some (fs, x.1)) (simp append_assoc)
regroup front f None = refl

-- after one more round of the loop, the items read so far and those still to be read make up the same total
pub goes_on : {X : Type 0} (begins : List Lexeme → Bool) (item : Reader X) (front new : List X) (count i : ℕ) (tokens : List Lexeme) (f : X) (after : List Lexeme) (total : Option (List X × List Lexeme))
    → i < count → begins tokens ≡ true → item tokens ≡ Some (f, after) → new ≡ front ++ f ∷ []
    → with_front front (many begins item (count - i) tokens) ≡ total → with_front new (many begins item (count - (i + 1)) after) ≡ total
goes_on {X} begins item front new count i tokens f after total lt sign is pushed so_far =
    let k : count - i ≡ suc (count - (i + 1)) = omega arith in
    rw pushed (sym (regroup front f (many begins item (count - (i + 1)) after)) ∙ (rw (k, sign, is) at so_far))

-- if `begins` doesn't hold, no item is read
pub none_more : {X : Type 0} (begins : List Lexeme → Bool) (item : Reader X) (n : ℕ) (tokens : List Lexeme) → begins tokens ≡ false → many begins item n tokens ≡ Some ([], tokens)
none_more begins item zero tokens e = refl
none_more begins item (suc n) tokens e = rw e refl

-- if `begins` doesn't hold, the items read so far are the total
pub stops : {X : Type 0} (begins : List Lexeme → Bool) (item : Reader X) (front : List X) (n : ℕ) (tokens : List Lexeme) (total : Option (List X × List Lexeme)) → begins tokens ≡ false
    → with_front front (many begins item n tokens) ≡ total → total ≡ Some (front, tokens)
stops {X} begins item front n tokens total e so_far =
    sym so_far ∙ ap (with_front front) (none_more begins item n tokens e) ∙ ap (λ (xs : List X). Some (xs, tokens)) (append-nil front)
