-- What thinning leaves of a filling. A pattern is called enough if it passes the test `enough`.
use Rattle.std.proofs.Common.{◌≡◌, ◌<◌, ℕ, zero, suc, Bool, true, false, cond, Option, Some, None, List, [], ◌∷◌, slice_get, length, nat_eq, refl, sym, ◌∙◌, ap}
use Rattle.std.proofs.lemmas.Bool.{and_parts, and_from, false≢true, eq-eqb, eqb-true}
use Rattle.std.proofs.lemmas.List.Elements.{All-nil, All-cons, All-head, All-tail}
use Rattle.std.specs.{Prelude.IfSome, List.All}
use Rattle.dd_minimal.specs.{Patterns.is_kept, Patterns.agrees, Patterns.whole, Patterns.left_out, Minimal.thinned}
use Rattle.dd_minimal.specs.finding.Numbers.{KeepsBelow}

-- p is weaker than q: each filling that agrees with q agrees with p
abbrev pub Weaker : List (Option ℕ) → List (Option ℕ) → Type 0
Weaker p q = (ss : List ℕ) → agrees q ss ≡ true → agrees p ss ≡ true

-- if p is enough, and p is weaker than q, then q is enough
abbrev pub Rises : (List (Option ℕ) → Bool) → Type 0
Rises enough = (p q : List (Option ℕ)) → Weaker p q → enough p ≡ true → enough q ≡ true

weaker_cons : (x y : Option ℕ) (ps qs : List (Option ℕ)) → ((t : ℕ) → is_kept y t ≡ true → is_kept x t ≡ true) → Weaker ps qs → (ss : List ℕ) → agrees (y ∷ qs) ss ≡ true → agrees (x ∷ ps) ss ≡ true
weaker_cons x y ps qs one more [] h = absurd (false≢true h)
weaker_cons x y ps qs one more (s ∷ ss) h =
    let both = and_parts (is_kept y s) (agrees qs ss) h in
    and_from (is_kept x s) (agrees ps ss) (one s both.0) (more ss both.1)

looser : (b : Bool) (s t : ℕ) → is_kept (Some s) t ≡ true → is_kept (cond b None (Some s)) t ≡ true
looser true s t h = refl
looser false s t h = h

pub thinned_weaker : (enough : List (Option ℕ) → Bool) (ss : List ℕ) → Weaker (thinned enough ss) (whole ss)
thinned_weaker enough [] = λ qs h. h
thinned_weaker enough (s ∷ ss) =
    let first = cond (enough (None ∷ whole ss)) None (Some s) in
    weaker_cons first (Some s) (thinned (λ p. enough (first ∷ p)) ss) (whole ss) (looser (enough (None ∷ whole ss)) s) (thinned_weaker (λ p. enough (first ∷ p)) ss)

pub whole_agrees : (ss : List ℕ) → agrees (whole ss) ss ≡ true
whole_agrees [] = refl
whole_agrees (s ∷ ss) = and_from (nat_eq s s) (agrees (whole ss) ss) (eq-eqb s s refl) (whole_agrees ss)

pub whole_only : (ss qs : List ℕ) → agrees (whole ss) qs ≡ true → qs ≡ ss
whole_only [] [] h = refl
whole_only [] (q ∷ qs) h = absurd (false≢true h)
whole_only (s ∷ ss) [] h = absurd (false≢true h)
whole_only (s ∷ ss) (q ∷ qs) h =
    let both = and_parts (nat_eq s q) (agrees (whole ss) qs) h in
    ap (λ x. x ∷ qs) (sym (eqb-true s q both.0)) ∙ ap (λ xs. s ∷ xs) (whole_only ss qs both.1)

pub thinned_agrees : (enough : List (Option ℕ) → Bool) (ss : List ℕ) → agrees (thinned enough ss) ss ≡ true
thinned_agrees enough ss = thinned_weaker enough ss ss (whole_agrees ss)

-- if the pattern that keeps all cells of a filling is enough, so is the thinned filling

enough_first : (enough : List (Option ℕ) → Bool) (s : ℕ) (ss : List ℕ) (b : Bool) → enough (None ∷ whole ss) ≡ b → enough (Some s ∷ whole ss) ≡ true → enough (cond b None (Some s) ∷ whole ss) ≡ true
enough_first enough s ss true is h = is
enough_first enough s ss false is h = h

pub thinned_enough : (enough : List (Option ℕ) → Bool) (ss : List ℕ) → enough (whole ss) ≡ true → enough (thinned enough ss) ≡ true
thinned_enough enough [] h = h
thinned_enough enough (s ∷ ss) h =
    let first = cond (enough (None ∷ whole ss)) None (Some s) in
    thinned_enough (λ p. enough (first ∷ p)) ss (enough_first enough s ss (enough (None ∷ whole ss)) refl h)

-- Let `enough` satisfy `Rises`. If a thinned filling keeps a cell, then it isn't enough without this cell. The cell was kept because the pattern
-- without it, with all later cells kept, wasn't enough. When later cells are left out too, that pattern becomes weaker, so it isn't enough either.

rises_behind : (enough : List (Option ℕ) → Bool) (x : Option ℕ) → Rises enough → Rises (λ p. enough (x ∷ p))
rises_behind enough x up p q weaker h = up (x ∷ p) (x ∷ q) (weaker_cons x x p q (λ t same. same) weaker) h

falls : (b c : Bool) → (b ≡ true → c ≡ true) → c ≡ false → b ≡ false
falls true c h fails = absurd (false≢true (sym fails ∙ h refl))
falls false c h fails = refl

abbrev is_some_kept : Option (Option ℕ) → Bool
is_some_kept None = false
is_some_kept (Some None) = false
is_some_kept (Some (Some s)) = true

needs_first : (enough : List (Option ℕ) → Bool) → Rises enough → (s t : ℕ) (ss : List ℕ) (ps : List (Option ℕ)) (b : Bool) → enough (None ∷ whole ss) ≡ b → Weaker ps (whole ss) →
    Some (cond b None (Some s)) ≡ Some (Some t) → enough (None ∷ ps) ≡ false
needs_first enough up s t ss ps true is weaker h = absurd (false≢true (ap is_some_kept h))
needs_first enough up s t ss ps false is weaker h =
    falls (enough (None ∷ ps)) (enough (None ∷ whole ss)) (up (None ∷ ps) (None ∷ whole ss) (weaker_cons None None ps (whole ss) (λ q same. same) weaker)) is

pub thinned_needs : (enough : List (Option ℕ) → Bool) → Rises enough → (ss : List ℕ) (k t : ℕ) → slice_get (thinned enough ss) k ≡ Some (Some t) → enough (left_out k (thinned enough ss)) ≡ false
thinned_needs enough up [] k t h = absurd (false≢true (ap is_some_kept h))
thinned_needs enough up (s ∷ ss) zero t h =
    let first = cond (enough (None ∷ whole ss)) None (Some s) in
    needs_first enough up s t ss (thinned (λ p. enough (first ∷ p)) ss) (enough (None ∷ whole ss)) refl (thinned_weaker (λ p. enough (first ∷ p)) ss) h
thinned_needs enough up (s ∷ ss) (suc k) t h =
    let first = cond (enough (None ∷ whole ss)) None (Some s) in
    thinned_needs (λ p. enough (first ∷ p)) (rises_behind enough first up) ss k t h

-- ---- the length of a thinned filling, and the symbols of the pattern that keeps all cells

pub thinned_length : (enough : List (Option ℕ) → Bool) (ss : List ℕ) → length (thinned enough ss) ≡ length ss
thinned_length enough [] = refl
thinned_length enough (s ∷ ss) = ap suc (thinned_length (λ p. enough (cond (enough (None ∷ whole ss)) None (Some s) ∷ p)) ss)

pub whole_below : (m : ℕ) (ss : List ℕ) → All (λ s. s < m) ss → KeepsBelow m (whole ss)
whole_below m [] below = All-nil (λ p. IfSome p (λ s. s < m))
whole_below m (s ∷ ss) below =
    All-cons (λ p. IfSome p (λ t. t < m)) (Some s) (whole ss) (All-head (λ t. t < m) s ss below) (whole_below m ss (All-tail (λ t. t < m) s ss below))

-- ---- Let a filling's symbols be among the first m. If two tests agree on all patterns that have the filling's length and keep only symbols among
-- the first m, then both tests thin the filling to the same pattern.

kept_one : (m s : ℕ) (b : Bool) → s < m → IfSome (cond b None (Some s)) (λ t. t < m)
kept_one m s true below = tt
kept_one m s false below = below

pub whole_length : (ss : List ℕ) → length (whole ss) ≡ length ss
whole_length [] = refl
whole_length (s ∷ ss) = ap suc (whole_length ss)

pub thinned_alike : (m : ℕ) (e f : List (Option ℕ) → Bool) (ss : List ℕ) → ((p : List (Option ℕ)) → length p ≡ length ss → KeepsBelow m p → e p ≡ f p) → All (λ s. s < m) ss → thinned e ss ≡ thinned f ss
thinned_alike m e f [] same below = refl
thinned_alike m e f (s ∷ ss) same below =
    let K : Option ℕ → Type 0 = λ p. IfSome p (λ t. t < m) in
    let first = cond (e (None ∷ whole ss)) None (Some s) in
    let small = All-head (λ t. t < m) s ss below in
    let later = All-tail (λ t. t < m) s ss below in
    let test : e (None ∷ whole ss) ≡ f (None ∷ whole ss) = same (None ∷ whole ss) (ap suc (whole_length ss)) (All-cons K None (whole ss) tt (whole_below m ss later)) in
    let rest = thinned_alike m (λ p. e (first ∷ p)) (λ p. f (first ∷ p)) ss
    (λ p long keeps. same (first ∷ p) (ap suc long) (All-cons K first p (kept_one m s (e (None ∷ whole ss)) small) keeps)) later in
    ap (λ ps. first ∷ ps) rest ∙ ap (λ b. cond b None (Some s) ∷ thinned (λ p. f (cond b None (Some s) ∷ p)) ss) test
