-- What holds of a minimal list.
use Rattle.std.proofs.Common.{◌≡◌, ◌&&◌, ℕ, Bool, true, false, not, cond, Option, List, [], ◌∷◌, ◌++◌, length, refl, sym, ◌∙◌, ap, subst, inl, inr, ◌⊎◌}
use Rattle.std.proofs.lemmas.{Bool.false≢true, List.append_assoc, List.Folds.list_any-append}
use Rattle.std.proofs.lemmas.List.Elements.{All-nil, All-cons, All-contains}
use Rattle.std.specs.{Prelude.◌↔◌, List.All, List.Contains}
use Rattle.dd_formula.specs.LocalRule.{LocalRule, cells_at, IsRule}
use Rattle.dd_forbidden.specs.Breaking.{are_allowed, is_true_at_origin, IsBreaking, BreakingFillings}
use Rattle.dd_minimal.specs.Patterns.{agrees, is_covered, whole, left_out}
use Rattle.dd_minimal.specs.Minimal.{words, is_spared, all_break, thinned, listed, IsMinimalList}
use Rattle.dd_minimal.specs.Claims.{IsSpared, NeedsEach, AreNew}
use Rattle.dd_minimal.proofs.{Lists.fails, Lists.has, AllWords.words_have, AllWords.allowed_word}
use Rattle.dd_minimal.proofs.ThinLaws.{Rises, thinned_agrees, thinned_enough, thinned_needs, whole_only}
use Rattle.dd_values.specs.lemmas.Members.{Contains-later, Contains-cons_cases, Contains-first, Contains-nil}
use Rattle.dd_values.specs.lemmas.{Booleans.or_left, Booleans.or_right, Lists.passes}

abbrev Patterns : Type 0
Patterns = List (List (Option ℕ))

-- ---- `all_break` is true exactly when every filling with allowed symbols that agrees with the pattern breaks the rule

false_so : (g al t : Bool) → g ≡ true → al ≡ true → not (g && (al && t)) ≡ true → t ≡ false
false_so true true true is ok h = absurd (false≢true h)
false_so true true false is ok h = refl
false_so true false t is ok h = absurd (false≢true ok)
false_so false al t is ok h = absurd (false≢true is)

pub breaking_all : (r : LocalRule) → IsRule r → (a : ℕ) (p : List (Option ℕ)) (ss : List ℕ) → all_break r a p ≡ true → are_allowed r (cells_at r a) ss ≡ true → agrees p ss ≡ true → is_true_at_origin r a ss ≡ false
breaking_all r ok a p ss h al ag =
    false_so (agrees p ss) (are_allowed r (cells_at r a) ss) (is_true_at_origin r a ss) ag al
    (passes (λ qs. not (agrees p qs && is_spared r a qs)) (words r.symbols (length (cells_at r a))) ss h
    (words_have r.symbols (length (cells_at r a)) ss (allowed_word r ok (cells_at r a) ss al)))

all_three : (g al t : Bool) → not (g && (al && t)) ≡ false → (g ≡ true) × ((al ≡ true) × (t ≡ true))
all_three true true true h = (refl, (refl, refl))
all_three true true false h = absurd (false≢true (sym h))
all_three true false t h = absurd (false≢true (sym h))
all_three false al t h = absurd (false≢true (sym h))

pub one_spared : (r : LocalRule) (a : ℕ) (p : List (Option ℕ)) → all_break r a p ≡ false → (ss : List ℕ) × IsSpared r a p ss
one_spared r a p h =
    let w = fails (λ qs. not (agrees p qs && is_spared r a qs)) (words r.symbols (length (cells_at r a))) h in
    let three = all_three (agrees p w.at) (are_allowed r (cells_at r a) w.at) (is_true_at_origin r a w.at) w.is in
    (w.at, record { allowed = three.1.0; agreeing = three.0; holds = three.1.1 })

abbrev pub BreaksAll : LocalRule → ℕ → List (Option ℕ) → Type 0
BreaksAll r a p = (ss : List ℕ) → are_allowed r (cells_at r a) ss ≡ true → agrees p ss ≡ true → is_true_at_origin r a ss ≡ false

all_break_at : (r : LocalRule) (a : ℕ) (p : List (Option ℕ)) (b : Bool) → all_break r a p ≡ b → BreaksAll r a p → all_break r a p ≡ true
all_break_at r a p true is h = is
all_break_at r a p false is h =
    let w = one_spared r a p is in
    absurd (false≢true (sym (h w.0 w.1.allowed w.1.agreeing) ∙ w.1.holds))

pub all_break_from : (r : LocalRule) (a : ℕ) (p : List (Option ℕ)) → BreaksAll r a p → all_break r a p ≡ true
all_break_from r a p h = all_break_at r a p (all_break r a p) refl h

-- ---- each listed pattern is a thinned filling

all_at : (P : List (Option ℕ) → Type 0) (thin : List ℕ → List (Option ℕ)) (before : Patterns) (ss : List ℕ) (more : List (List ℕ)) (b : Bool) →
    P (thin ss) → All P (listed thin before more) → All P (listed thin (before ++ thin ss ∷ []) more) →
    All P (cond b (listed thin before more) (thin ss ∷ listed thin (before ++ thin ss ∷ []) more))
all_at P thin before ss more true here over next = over
all_at P thin before ss more false here over next = All-cons P (thin ss) (listed thin (before ++ thin ss ∷ []) more) here next

pub all_listed : (P : List (Option ℕ) → Type 0) (thin : List ℕ → List (Option ℕ)) (before : Patterns) (xs : List (List ℕ)) → ((ss : List ℕ) → Contains xs ss → P (thin ss)) → All P (listed thin before xs)
all_listed P thin before [] each = All-nil P
all_listed P thin before (ss ∷ more) each =
    let later : (qs : List ℕ) → Contains more qs → P (thin qs) = λ qs c. each qs (Contains-later ss more qs c) in
    all_at P thin before ss more (is_covered before ss) (each ss (Contains-first ss more)) (all_listed P thin before more later) (all_listed P thin (before ++ thin ss ∷ []) more later)

-- ---- each filling that is taken agrees with a listed pattern

in_first : (ss : List ℕ) (ps qs : Patterns) → is_covered ps ss ≡ true → is_covered (ps ++ qs) ss ≡ true
in_first ss ps qs h = list_any-append (λ p. agrees p ss) ps qs ∙ or_left (is_covered ps ss) (is_covered qs ss) h

in_last : (ss : List ℕ) (ps : Patterns) (p : List (Option ℕ)) → agrees p ss ≡ true → is_covered (ps ++ p ∷ []) ss ≡ true
in_last ss [] p h = or_left (agrees p ss) false h
in_last ss (q ∷ ps) p h = or_right (agrees q ss) (is_covered (ps ++ p ∷ []) ss) (in_last ss ps p h)

covered_next : (thin : List ℕ → List (Option ℕ)) (before : Patterns) (ss qs : List ℕ) (more : List (List ℕ)) →
    is_covered ((before ++ thin ss ∷ []) ++ listed thin (before ++ thin ss ∷ []) more) qs ≡ true → is_covered (before ++ thin ss ∷ listed thin (before ++ thin ss ∷ []) more) qs ≡ true
covered_next thin before ss qs more next = ap (λ ps. is_covered ps qs) (sym (append_assoc before (thin ss ∷ []) (listed thin (before ++ thin ss ∷ []) more))) ∙ next

covered_at : (thin : List ℕ → List (Option ℕ)) (before : Patterns) (ss qs : List ℕ) (more : List (List ℕ)) (b : Bool) →
    is_covered (before ++ listed thin before more) qs ≡ true → is_covered ((before ++ thin ss ∷ []) ++ listed thin (before ++ thin ss ∷ []) more) qs ≡ true →
    is_covered (before ++ cond b (listed thin before more) (thin ss ∷ listed thin (before ++ thin ss ∷ []) more)) qs ≡ true
covered_at thin before ss qs more true over next = over
covered_at thin before ss qs more false over next = covered_next thin before ss qs more next

covers_at : (thin : List ℕ → List (Option ℕ)) → ((ss : List ℕ) → agrees (thin ss) ss ≡ true) → (before : Patterns) (ss qs : List ℕ) (more : List (List ℕ)) (b : Bool) → is_covered before ss ≡ b →
    (Contains more qs → is_covered (before ++ listed thin before more) qs ≡ true) →
    (Contains more qs → is_covered ((before ++ thin ss ∷ []) ++ listed thin (before ++ thin ss ∷ []) more) qs ≡ true) → (ss ≡ qs) ⊎ Contains more qs →
    is_covered (before ++ cond b (listed thin before more) (thin ss ∷ listed thin (before ++ thin ss ∷ []) more)) qs ≡ true
covers_at thin fits before ss qs more true is over next (inl same) = in_first qs before (listed thin before more) (ap (λ xs. is_covered before xs) (sym same) ∙ is)
covers_at thin fits before ss qs more false is over next (inl same) =
    covered_next thin before ss qs more (in_first qs (before ++ thin ss ∷ []) (listed thin (before ++ thin ss ∷ []) more)
    (in_last qs before (thin ss) (ap (agrees (thin ss)) (sym same) ∙ fits ss)))
covers_at thin fits before ss qs more b is over next (inr there) = covered_at thin before ss qs more b (over there) (next there)

listed_covers : (thin : List ℕ → List (Option ℕ)) → ((ss : List ℕ) → agrees (thin ss) ss ≡ true) → (before : Patterns) (xs : List (List ℕ)) (qs : List ℕ) → Contains xs qs → is_covered (before ++ listed thin before xs) qs ≡ true
listed_covers thin fits before [] qs c = absurd (Contains-nil qs c)
listed_covers thin fits before (ss ∷ more) qs c =
    covers_at thin fits before ss qs more (is_covered before ss) refl (listed_covers thin fits before more qs) (listed_covers thin fits (before ++ thin ss ∷ []) more qs) (Contains-cons_cases ss more qs c)

-- ---- each listed pattern agrees with a breaking filling that agrees with no pattern listed before

new_at : (r : LocalRule) (a : ℕ) (thin : List ℕ → List (Option ℕ)) → ((ss : List ℕ) → agrees (thin ss) ss ≡ true) → (before : Patterns) (ss : List ℕ) (more : List (List ℕ)) (b : Bool) →
    is_covered before ss ≡ b → IsBreaking r a ss → AreNew r a before (listed thin before more) → AreNew r a (before ++ thin ss ∷ []) (listed thin (before ++ thin ss ∷ []) more) →
    AreNew r a before (cond b (listed thin before more) (thin ss ∷ listed thin (before ++ thin ss ∷ []) more))
new_at r a thin fits before ss more true is breaks over next = over
new_at r a thin fits before ss more false is breaks over next = ((ss, record { breaking = breaks; agreeing = fits ss; new = is }), next)

listed_new : (r : LocalRule) (a : ℕ) (thin : List ℕ → List (Option ℕ)) → ((ss : List ℕ) → agrees (thin ss) ss ≡ true) → (before : Patterns) (xs : List (List ℕ)) → ((ss : List ℕ) → Contains xs ss → IsBreaking r a ss) → AreNew r a before (listed thin before xs)
listed_new r a thin fits before [] each = tt
listed_new r a thin fits before (ss ∷ more) each =
    let later : (qs : List ℕ) → Contains more qs → IsBreaking r a qs = λ qs c. each qs (Contains-later ss more qs c) in
    new_at r a thin fits before ss more (is_covered before ss) refl (each ss (Contains-first ss more)) (listed_new r a thin fits before more later) (listed_new r a thin fits (before ++ thin ss ∷ []) more later)

-- ---- the laws

rises : (r : LocalRule) → IsRule r → (a : ℕ) → Rises (all_break r a)
rises r ok a p q weaker h = all_break_from r a q (λ ss al ag. breaking_all r ok a p ss h al (weaker ss ag))

breaking_whole : (r : LocalRule) (a : ℕ) (ss : List ℕ) → IsBreaking r a ss → all_break r a (whole ss) ≡ true
breaking_whole r a ss is = all_break_from r a (whole ss) (λ qs al ag. ap (is_true_at_origin r a) (whole_only ss qs ag) ∙ is.broken)

all_break_listed : (r : LocalRule) (a : ℕ) (ps : Patterns) → IsMinimalList r a ps → All (λ p. all_break r a p ≡ true) ps
all_break_listed r a ps m =
    subst (All (λ p. all_break r a p ≡ true)) (sym m.list)
    (all_listed (λ p. all_break r a p ≡ true) (thinned (all_break r a)) [] m.breaking
    (λ ss c. thinned_enough (all_break r a) ss (breaking_whole r a ss (m.fillings.only ss c))))

pub exact : (r : LocalRule) (a : ℕ) (ps : Patterns) (ss : List ℕ) → IsRule r → IsMinimalList r a ps → are_allowed r (cells_at r a) ss ≡ true → (is_true_at_origin r a ss ≡ false) ↔ (is_covered ps ss ≡ true)
exact r a ps ss ok m al = (
  λ broken. ap (λ qs. is_covered qs ss) m.list ∙ listed_covers (thinned (all_break r a)) (thinned_agrees (all_break r a)) [] m.breaking ss (m.fillings.each ss (record { allowed = al; broken = broken })),
  λ found.
      let one = has (λ p. agrees p ss) ps found in
      breaking_all r ok a one.at ss (All-contains (λ p. all_break r a p ≡ true) ps one.at (all_break_listed r a ps m) one.listed) al one.is,
)

pub needs_each : (r : LocalRule) (a : ℕ) (ps : Patterns) → IsRule r → IsMinimalList r a ps → All (NeedsEach r a) ps
needs_each r a ps ok m =
    subst (All (NeedsEach r a)) (sym m.list)
    (all_listed (NeedsEach r a) (thinned (all_break r a)) [] m.breaking
    (λ ss c k s kept. one_spared r a (left_out k (thinned (all_break r a) ss)) (thinned_needs (all_break r a) (rises r ok a) ss k s kept)))

pub all_new : (r : LocalRule) (a : ℕ) (ps : Patterns) → IsMinimalList r a ps → AreNew r a [] ps
all_new r a ps m = subst (AreNew r a []) (sym m.list) (listed_new r a (thinned (all_break r a)) (thinned_agrees (all_break r a)) [] m.breaking m.fillings.only)

-- there is only one list of all breaking fillings
abbrev OneList : Type 0
OneList = (r : LocalRule) (a : ℕ) (xs ys : List (List ℕ)) → BreakingFillings r a xs → BreakingFillings r a ys → xs ≡ ys

-- so there is only one minimal list
pub one_list : OneList → (r : LocalRule) (a : ℕ) (ps qs : Patterns) → IsMinimalList r a ps → IsMinimalList r a qs → ps ≡ qs
one_list fillings r a ps qs m o = m.list ∙ (ap (listed (thinned (all_break r a)) []) (fillings r a m.breaking o.breaking m.fillings o.fillings) ∙ sym o.list)
