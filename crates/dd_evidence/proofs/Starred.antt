-- There is only one list that `IsStarredList` accepts. Each of its patterns belongs to a node of the rule, and the patterns of a node are the node's
-- minimal list. An output can hold the list, if at each node the cells that the rule reads have at most 65,536 fillings.
use Rattle.std.proofs.Common.{◌≡◌, ℕ, zero, suc, ◌*◌, ◌≤◌, ◌<◌, inl, inr, Bool, true, false, cond, Option, Some, None, List, [], ◌∷◌, ◌++◌, map, length, nat_eq, refl, ap, sym, subst, ◌∙◌, arith}
use Rattle.std.proofs.lemmas.List.{map-append, append-nil}
use Rattle.std.proofs.lemmas.List.Elements.{All-nil, All-cons, All-head, All-tail, All-append, All-weaker, All-contains_itself, All-map, filter-append}
use Rattle.std.proofs.lemmas.Bool.{cases_lt, eq-eqb, ne_eqb}
use Rattle.std.specs.List.{All, Contains, filter}
use Rattle.dd_formula.specs.LocalRule.{LocalRule, IsRule}
use Rattle.dd_forbidden.specs.Breaking.{IsBreaking}
use Rattle.dd_minimal.specs.{Patterns.whole, Patterns.is_covered, Minimal.thinned, Minimal.all_break, Minimal.IsMinimalList}
use Rattle.dd_certificate.specs.declared.answer.Starred.{Starred}
use Rattle.dd_certificate.specs.Bounds.{IsWritable, IsWritableNumber, IsWritableSymbolOrStar, IsWritableStarred}
use Rattle.dd_question.specs.Lists.{HasFewPatterns}
use Rattle.dd_evidence.specs.{NodeLists.IsListTo, Lists.starred, Lists.IsStarredList, Lists.patterns_at}
use Rattle.dd_evidence.proofs.{NodeLists.list_one, NodeLists.list_fits, Lists.AreShort, Lists.AreKnown}
use Rattle.dd_minimal.specs.Minimal as minimal
use Rattle.dd_certificate.specs.declared.answer.Answer.TheVariants as answer

abbrev AreOne : Type 0
AreOne = (r : LocalRule) (a : ℕ) (ps qs : List (List (Option ℕ))) → IsMinimalList r a ps → IsMinimalList r a qs → ps ≡ qs

pub one_starred : AreOne → (x : LocalRule) (some others : List Starred) → IsStarredList x some → IsStarredList x others → some ≡ others
one_starred one x some others h k = list_one (IsMinimalList x) starred (one x) x.nodes some others h k

-- ---- an output can hold the list

-- the list that is chosen has at most n items if both lists do
either_short : {X : Type 0} (b : Bool) (xs ys : List X) (n : ℕ) → length xs ≤ n → length ys ≤ n → length (cond b xs ys) ≤ n
either_short true xs ys n h k = h
either_short false xs ys n h k = k

either_fits : {X : Type 0} (P : X → Type 0) (b : Bool) (xs ys : List X) → All P xs → All P ys → All P (cond b xs ys)
either_fits P true xs ys h k = h
either_fits P false xs ys h k = k

-- there are no more patterns than fillings
listed_short : (thin : List ℕ → List (Option ℕ)) (before : List (List (Option ℕ))) (lists : List (List ℕ)) →
    length (minimal.listed thin before lists) ≤ length lists
listed_short thin before [] = omega arith
listed_short thin before (ss ∷ more) =
    let others : length (minimal.listed thin before more) ≤ length more = listed_short thin before more in
    let later : length (minimal.listed thin (before ++ thin ss ∷ []) more) ≤ length more = listed_short thin (before ++ thin ss ∷ []) more in
    either_short (is_covered before ss) (minimal.listed thin before more) (thin ss ∷ minimal.listed thin (before ++ thin ss ∷ []) more) (suc (length more))
    (omega (arith, others)) (omega (arith, later))

-- Each listed pattern is a thinned filling: a filling from which needless cells are left out. So what holds for all thinned fillings holds for each
-- listed pattern.
listed_fit : (P : List (Option ℕ) → Type 0) (thin : List ℕ → List (Option ℕ)) (before : List (List (Option ℕ))) (lists : List (List ℕ)) →
    All (λ ss. P (thin ss)) lists → All P (minimal.listed thin before lists)
listed_fit P thin before [] h = All-nil P
listed_fit P thin before (ss ∷ more) h =
    let first = All-head (λ qs. P (thin qs)) ss more h in
    let rest = All-tail (λ qs. P (thin qs)) ss more h in
    either_fits P (is_covered before ss) (minimal.listed thin before more) (thin ss ∷ minimal.listed thin (before ++ thin ss ∷ []) more)
    (listed_fit P thin before more rest)
    (All-cons P (thin ss) (minimal.listed thin (before ++ thin ss ∷ []) more) first (listed_fit P thin (before ++ thin ss ∷ []) more rest))

kept_fits : (b : Bool) (s : ℕ) → IsWritableNumber s → IsWritableSymbolOrStar (cond b None (Some s))
kept_fits true s h = tt
kept_fits false s h = h

thinned_fits : (enough : List (Option ℕ) → Bool) (ss : List ℕ) → All IsWritableNumber ss → All IsWritableSymbolOrStar (thinned enough ss)
thinned_fits enough [] h = All-nil IsWritableSymbolOrStar
thinned_fits enough (s ∷ ss) h =
    let first = cond (enough (None ∷ whole ss)) None (Some s) in
    All-cons IsWritableSymbolOrStar first (thinned (λ p. enough (first ∷ p)) ss)
    (kept_fits (enough (None ∷ whole ss)) s (All-head IsWritableNumber s ss h))
    (thinned_fits (λ p. enough (first ∷ p)) ss (All-tail IsWritableNumber s ss h))

module _ (short : AreShort) (known : AreKnown) (x : LocalRule) (rule : IsRule x) (few : HasFewPatterns x) where
  filling_fits : (a : ℕ) (ss : List ℕ) → a < x.nodes → IsBreaking x a ss → IsWritableStarred (starred a (thinned (all_break x a) ss))
  filling_fits a ss below breaking =
      let nodes : x.nodes ≤ 4 = rule.nodes.1 in
      let most : x.symbols ≤ 16 = rule.symbols.1 in (
        omega (arith, below, nodes),
        thinned_fits (all_break x a) ss
            (All-weaker (λ s. s < x.symbols) IsWritableNumber (λ s less. omega (arith, less, most)) ss (known x a ss rule breaking)),
      )

  here_fits : (a : ℕ) (ps : List (List (Option ℕ))) → a < x.nodes → IsMinimalList x a ps → (length ps ≤ 65536) × All (λ p. IsWritableStarred (starred a p)) ps
  here_fits a ps below is =
      let thin = thinned (all_break x a) in
      let one = short x a is.breaking rule is.fillings in
      let most = few a below in
      let fewer : length ps ≤ length is.breaking =
      subst (λ (qs : List (List (Option ℕ))). length qs ≤ length is.breaking) (sym is.list) (listed_short thin [] is.breaking) in (
        omega (arith, one, most, fewer),
        subst (All (λ p. IsWritableStarred (starred a p))) (sym is.list)
            (listed_fit (λ p. IsWritableStarred (starred a p)) thin [] is.breaking
            (All-weaker (Contains is.breaking) (λ ss. IsWritableStarred (starred a (thin ss)))
            (λ ss there. filling_fits a ss below (is.fillings.only ss there)) is.breaking (All-contains_itself is.breaking))),
      )

  pub starred_fit : (patterns : List Starred) → IsStarredList x patterns → IsWritable (answer.Minimal patterns)
  starred_fit patterns is =
      let both = list_fits (IsMinimalList x) starred IsWritableStarred x.nodes 65536 here_fits x.nodes patterns (omega arith) is in
      let many : length patterns ≤ x.nodes * 65536 = both.0 in
      let nodes : x.nodes ≤ 4 = rule.nodes.1 in
      (omega (arith, many, nodes), both.1)

-- ---- the patterns of a node

at_both : (a : ℕ) (some others : List Starred) → patterns_at a (some ++ others) ≡ patterns_at a some ++ patterns_at a others
at_both a some others =
    let own : Starred → Bool = λ p. nat_eq p.node a in
    ap (map (λ (p : Starred). p.symbols)) (filter-append own some others) ∙ map-append (λ (p : Starred). p.symbols) (filter own some) (filter own others)

all_own : (n a : ℕ) (ps : List (List (Option ℕ))) → nat_eq n a ≡ true → patterns_at a (map (starred n) ps) ≡ ps
all_own n a [] h = refl
all_own n a (p ∷ ps) h = rw h (ap (λ (qs : List (List (Option ℕ))). p ∷ qs) (all_own n a ps h))

none_own : (n a : ℕ) (ps : List (List (Option ℕ))) → nat_eq n a ≡ false → patterns_at a (map (starred n) ps) ≡ []
none_own n a [] h = refl
none_own n a (p ∷ ps) h = rw h (none_own n a ps h)

module _ (x : LocalRule) (a : ℕ) where
  -- before the node is reached, none of its patterns is listed
  none_before : (n : ℕ) (patterns : List Starred) → n ≤ a → IsListTo (IsMinimalList x) starred n patterns → patterns_at a patterns ≡ []
  none_before zero patterns le is = ap (patterns_at a) is
  none_before (suc n) patterns le is =
      let others = none_own n a is.here (ne_eqb n a (λ same. omega (arith, le, same))) in
      let early = none_before n is.before (omega (arith, le)) is.is_before in
      ap (patterns_at a) is.whole ∙ (at_both a is.before (map (starred n) is.here) ∙ rw (early, others) refl)

  listed_at : (n : ℕ) (patterns : List Starred) → a < n → IsListTo (IsMinimalList x) starred n patterns → IsMinimalList x a (patterns_at a patterns)
  listed_at zero patterns below is = absurd (omega arith)
  listed_at (suc n) patterns below is =
      let both = ap (patterns_at a) is.whole ∙ at_both a is.before (map (starred n) is.here) in
      elim (cases_lt a n) [
        | inl low ↦
            let others = none_own n a is.here (ne_eqb n a (λ same. omega (arith, low, same))) in
            let same : patterns_at a patterns ≡ patterns_at a is.before =
            both ∙ (ap (λ (ps : List (List (Option ℕ))). patterns_at a is.before ++ ps) others ∙ append-nil (patterns_at a is.before)) in
            subst (IsMinimalList x a) (sym same) (listed_at n is.before low is.is_before)
        | inr high ↦
            let is_node : n ≡ a = omega (arith, high, below) in
            let early = none_before n is.before (omega (arith, is_node)) is.is_before in
            let own = all_own n a is.here (eq-eqb n a is_node) in
            let same : patterns_at a patterns ≡ is.here = both ∙ rw (early, own) refl in
            subst (λ (m : ℕ). IsMinimalList x m (patterns_at a patterns)) is_node
            (subst (IsMinimalList x n) (sym same) is.is_here)
      ]

pub starred_minimal : (x : LocalRule) (patterns : List Starred) (a : ℕ) → IsStarredList x patterns → a < x.nodes → IsMinimalList x a (patterns_at a patterns)
starred_minimal x patterns a is below = listed_at x a x.nodes patterns below is

nodes_to : (x : LocalRule) (n : ℕ) (patterns : List Starred) → n ≤ x.nodes → IsListTo (IsMinimalList x) starred n patterns → All (λ p. p.node < x.nodes) patterns
nodes_to x zero patterns le is = subst (All (λ (p : Starred). p.node < x.nodes)) (sym is) (All-nil (λ (p : Starred). p.node < x.nodes))
nodes_to x (suc n) patterns le is =
    let IsKnown : Starred → Type 0 = λ p. p.node < x.nodes in
    let here : All IsKnown (map (starred n) is.here) = All-map IsKnown (starred n) is.here (λ i d h. omega (arith, le)) in
    subst (All IsKnown) (sym is.whole) (All-append IsKnown is.before (map (starred n) is.here) (nodes_to x n is.before (omega (arith, le)) is.is_before) here)

pub starred_known : (x : LocalRule) (patterns : List Starred) → IsStarredList x patterns → All (λ p. p.node < x.nodes) patterns
starred_known x patterns is = nodes_to x x.nodes patterns (omega arith) is
