-- How the list `denied`, which says of each literal whether it is false, changes when a literal becomes false, and when this is undone. A variable is
-- free exactly when the list says that neither of its literals is false. Each variable has a value exactly when there are as many entries as
-- variables.
use Rattle.std.proofs.Common.{◌≡◌, ◌≢◌, ℕ, ◌+◌, ◌*◌, ◌<◌, ◌≤◌, Bool, true, false, cond, not, ◌&&◌, ◌||◌, List, [], ◌∷◌, ◌++◌, refl, ap, sym, ◌∙◌, subst, length, get_or, set, take, inl, inr, arith, eqb, get_or-set_same, get_or-set_other}
use Rattle.std.proofs.lemmas.Bool.{cases_eq, false≢true, false_from_ne_true, or_left}
use Rattle.std.proofs.lemmas.List.{length-set, length-append, length-take, take-append-le, get_or-take, get_or_append_left, take_all, take_more}
use Rattle.std.proofs.Math.Seq.{get_or-append_seam, take-append_seam}
use Rattle.std.specs.{Bool.IsTrue, Prelude.◌↔◌}
use Rattle.dd_clause.specs.{declared.clause.Literal.Literal, Clauses.IsLiteralInRange, Clauses.negation}
use Rattle.dd_derivation.specs.Derivations.{same_literal, is_among, has_variable}
use Rattle.dd_derivation.specs.lemmas.Soundness.{literal-eq, same_literal-eq, same_literal-refl}
use Rattle.dd_trail.specs.{declared.trail.Entry.Entry, Trails.falses, Trails.IsFree, Trails.IsFull}
use Rattle.dd_trail.specs.keeping.Values.{code, IsDenied}
use Rattle.dd_trail.specs.lemmas.Trails.{in-has_variable, absent, take_shorter}
use Rattle.dd_trail.proofs.Valued.{valued_of, length_within, full_exactly, falses-snoc}

abbrev signed : ℕ → Bool → Literal
signed v p = record { variable = v; positive = p }

-- literals with the same code are equal
pub same_code : (x y : Literal) → code x ≡ code y → x ≡ y
same_code x y e = go x.positive y.positive refl refl e
  where
    go : (p q : Bool) → x.positive ≡ p → y.positive ≡ q → 2 * x.variable + cond p 1 0 ≡ 2 * y.variable + cond q 1 0 → x ≡ y
    go true true a b e = literal-eq x y (omega arith) (a ∙ sym b)
    go true false a b e = absurd (omega arith)
    go false true a b e = absurd (omega arith)
    go false false a b e = literal-eq x y (omega arith) (a ∙ sym b)

-- the list of all literals has a place for each literal in range
pub code_within : (n : ℕ) (l : Literal) → IsLiteralInRange n l → code l < 2 * n + 2
code_within n l r = go l.positive
  where
    go : (p : Bool) → 2 * l.variable + cond p 1 0 < 2 * n + 2
    go true = let b = r.1 in omega arith
    go false = let b = r.1 in omega arith

-- a literal that becomes false changes nothing for literals with another code
other : (x m : Literal) (xs : List Literal) → code x ≢ code m → is_among (m ∷ xs) x ≡ is_among xs x
other x m xs n = or_first (false_from_ne_true (same_literal x m) (λ s. n (ap code (same_literal-eq x m s))))
  where
    or_first : same_literal x m ≡ false → (same_literal x m || is_among xs x) ≡ is_among xs x
    or_first e = rw e refl

pub denied_more : (n : ℕ) (trail : List Entry) (denied : List Bool) (e : Entry) → IsDenied n trail denied → IsLiteralInRange n e.literal → has_variable e.literal.variable (falses trail) ≡ false → IsDenied n (trail ++ e ∷ []) (set denied (code (negation e.literal)) true)
denied_more n trail denied e v r f =
    let m = negation e.literal in
    let lt : code m < length denied = rw v.as_many (code_within n m r) in
    record {
      as_many = length-set denied (code m) true ∙ v.as_many;
      news = λ k d h. elim (cases_eq k (length trail)) [
        | inl q ↦ rw (q, get_or-append_seam trail e [] d, take-append_seam trail (e ∷ [])) (r, f)
        | inr u ↦ (let b : k < length trail = omega (arith, length-append trail (e ∷ [])) in
            rw (get_or_append_left trail (e ∷ []) d k b, take-append-le k trail (e ∷ []) (omega arith)) (v.news k d b))
      ];
      denied_ok = λ x. elim (cases_eq (code x) (code m)) [
        | inl q ↦ (let same : same_literal x m ≡ true = rw (same_code x m q) (same_literal-refl m) in
            let said : get_or (set denied (code m) true) (code x) false ≡ true = rw q (get_or-set_same denied (code m) true false lt) in
            said ∙ sym (falses-snoc trail e x ∙ or_left (same_literal x m) (is_among (falses trail) x) same))
        | inr u ↦ get_or-set_other denied (code m) (code x) true false u ∙ v.denied_ok x ∙ sym (falses-snoc trail e x ∙ other x m (falses trail) u)
      ];
    }

pub denied_less : (n : ℕ) (trail : List Entry) (denied : List Bool) (j : ℕ) (d : Entry) → length trail ≡ j + 1 → IsDenied n trail denied → IsDenied n (take j trail) (set denied (code (negation (get_or trail j d).literal)) false)
denied_less n trail denied j d l v =
    let e = get_or trail j d in
    let m = negation e.literal in
    let new = v.news j d (omega arith) in
    let lt : code m < length denied = rw v.as_many (code_within n m new.0) in
    let whole : trail ≡ take j trail ++ e ∷ [] = sym (take_all (j + 1) trail (omega arith)) ∙ take_more trail j d (omega arith) in
    record {
      as_many = length-set denied (code m) false ∙ v.as_many;
      news = λ k d' h. (let b : k < j = omega (arith, length-take j trail) in
          rw (get_or-take j trail k d' b, take_shorter trail k j (omega arith)) (v.news k d' (omega arith)));
      denied_ok = λ x. elim (cases_eq (code x) (code m)) [
        | inl q ↦ (let said : get_or (set denied (code m) false) (code x) false ≡ false = rw q (get_or-set_same denied (code m) false false lt) in said) ∙ sym (absent (falses (take j trail)) x e.literal.variable (ap (λ (y : Literal). y.variable) (same_code x m q)) new.1)
        | inr u ↦ get_or-set_other denied (code m) (code x) false false u ∙ v.denied_ok x ∙ ap (λ (t : List Entry). is_among (falses t) x) whole ∙ falses-snoc (take j trail) e x ∙ other x m (falses (take j trail)) u
      ];
    }

-- if a variable has no value, there are fewer entries than variables
pub room_more : (n : ℕ) (trail : List Entry) (denied : List Bool) (e : Entry) → IsDenied n trail denied → IsLiteralInRange n e.literal → has_variable e.literal.variable (falses trail) ≡ false → length trail < n
room_more n trail denied e v r f =
    let w = valued_of n (trail ++ e ∷ []) (denied_more n trail denied e v r f).news in
    omega (arith, length_within (trail ++ e ∷ []) w.0 w.2, w.1, length-append trail (e ∷ []))

-- a variable is free exactly when neither of its literals is false
pub free_exactly : (n : ℕ) (trail : List Entry) (denied : List Bool) (v : ℕ) (a b : Bool) → IsDenied n trail denied → 1 ≤ v → v ≤ n → get_or denied (2 * v) false ≡ a → get_or denied (2 * v + 1) false ≡ b → IsTrue (not a && not b) ↔ IsFree n trail v
free_exactly n trail denied v a b ok h k e g = (λ t. (h, k, fresh a b e g t), λ f. held a b e g f.2)
  where
    low : get_or denied (2 * v) false ≡ is_among (falses trail) (signed v false)
    low = ap (λ (i : ℕ). get_or denied i false) (let q : 2 * v ≡ 2 * v + 0 = omega arith in q) ∙ ok.denied_ok (signed v false)

    high : get_or denied (2 * v + 1) false ≡ is_among (falses trail) (signed v true)
    high = ok.denied_ok (signed v true)

    off : (x : Literal) → x.variable ≡ v → (p : Bool) → x.positive ≡ p → get_or denied (2 * v) false ≡ false → get_or denied (2 * v + 1) false ≡ false → get_or denied (code x) false ≡ true → ⊥
    off x q true r e g s = false≢true (sym g ∙ ap (λ (i : ℕ). get_or denied i false) (let w : 2 * v + 1 ≡ code x = rw (r, q) refl in w) ∙ s)
    off x q false r e g s = false≢true (sym e ∙ ap (λ (i : ℕ). get_or denied i false) (let w : 2 * v ≡ code x = rw (r, q) (omega arith) in w) ∙ s)

    fresh : (a b : Bool) → get_or denied (2 * v) false ≡ a → get_or denied (2 * v + 1) false ≡ b → (not a && not b) ≡ true → has_variable v (falses trail) ≡ false
    fresh true b e g t = absurd (false≢true t)
    fresh false true e g t = absurd (false≢true t)
    fresh false false e g t = false_from_ne_true _ (λ h.
        let w = in-has_variable (falses trail) v h in
        off w.0 w.2 w.0.positive refl e g (ok.denied_ok w.0 ∙ w.1))

    held : (a b : Bool) → get_or denied (2 * v) false ≡ a → get_or denied (2 * v + 1) false ≡ b → has_variable v (falses trail) ≡ false → (not a && not b) ≡ true
    held true b e g f = absurd (false≢true (sym (absent (falses trail) (signed v false) v refl f) ∙ sym low ∙ e))
    held false true e g f = absurd (false≢true (sym (absent (falses trail) (signed v true) v refl f) ∙ sym high ∙ g))
    held false false e g f = refl

-- each variable has a value exactly when there are as many entries as variables
pub full : (n : ℕ) (trail : List Entry) (denied : List Bool) (m : ℕ) → IsDenied n trail denied → m ≡ length trail → IsTrue (eqb m n) ↔ IsFull n trail
full n trail denied m ok e =
    let w = valued_of n trail ok.news in
    subst (λ (k : ℕ). IsTrue (eqb m k) ↔ IsFull k trail) w.1 (full_exactly trail w.0 m (length w.0) w.2 e refl)
