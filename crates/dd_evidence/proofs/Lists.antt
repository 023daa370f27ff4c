-- There is only one list of the patterns that a rule forbids. An output can hold it, if at each node the cells that the rule reads have at most 65,536
-- fillings. Its patterns at a node are exactly the fillings that break the rule there.
use Rattle.std.proofs.Common.{◌≡◌, ℕ, zero, suc, ◌*◌, ◌^◌, ◌≤◌, ◌<◌, inl, inr, List, [], ◌∷◌, ◌++◌, map, length, ap, sym, subst, arith}
use Rattle.std.proofs.lemmas.List.Elements.{All-weaker, All-contains_itself, Contains-append_left, Contains-append_right, Contains-append_cases}
use Rattle.std.proofs.lemmas.Bool.{cases_lt}
use Rattle.std.specs.{List.All, List.Contains, Prelude.◌↔◌}
use Rattle.dd_formula.specs.LocalRule.{LocalRule, IsRule, cells_at}
use Rattle.dd_forbidden.specs.Breaking.{IsBreaking, BreakingFillings}
use Rattle.dd_certificate.specs.{declared.answer.Listed.Listed, Bounds.IsWritable, Bounds.IsWritableNumber, Bounds.IsWritablePattern}
use Rattle.dd_question.specs.Lists.{HasFewPatterns}
use Rattle.dd_evidence.specs.{NodeLists.IsListTo, Lists.listed, Lists.IsForbiddenList}
use Rattle.dd_evidence.proofs.NodeLists.{list_one, list_fits}
use Rattle.dd_certificate.specs.declared.answer.Answer.TheVariants as answer

abbrev AreOne : Type 0
AreOne = (r : LocalRule) (a : ℕ) (xs ys : List (List ℕ)) → BreakingFillings r a xs → BreakingFillings r a ys → xs ≡ ys

pub one_forbidden : AreOne → (x : LocalRule) (some others : List Listed) → IsForbiddenList x some → IsForbiddenList x others → some ≡ others
one_forbidden one x some others h k = list_one (BreakingFillings x) listed (one x) x.nodes some others h k

-- ---- an output can hold the list

abbrev pub AreShort : Type 0
AreShort = (r : LocalRule) (a : ℕ) (xs : List (List ℕ)) → IsRule r → BreakingFillings r a xs → length xs ≤ r.symbols ^ length (cells_at r a)

abbrev pub AreKnown : Type 0
AreKnown = (r : LocalRule) (a : ℕ) (ss : List ℕ) → IsRule r → IsBreaking r a ss → All (λ s. s < r.symbols) ss

module _ (short : AreShort) (known : AreKnown) (x : LocalRule) (rule : IsRule x) (few : HasFewPatterns x) where
  symbols_fit : (a : ℕ) (ss : List ℕ) → a < x.nodes → IsBreaking x a ss → IsWritablePattern (listed a ss)
  symbols_fit a ss below breaking =
      let nodes : x.nodes ≤ 4 = rule.nodes.1 in
      let most : x.symbols ≤ 16 = rule.symbols.1 in (
        omega (arith, below, nodes),
        All-weaker (λ s. s < x.symbols) IsWritableNumber (λ s less. omega (arith, less, most)) ss (known x a ss rule breaking),
      )

  here_fits : (a : ℕ) (lists : List (List ℕ)) → a < x.nodes → BreakingFillings x a lists →
      (length lists ≤ 65536) × All (λ ss. IsWritablePattern (listed a ss)) lists
  here_fits a lists below breaking = (
    let one = short x a lists rule breaking in let most = few a below in omega (arith, one, most),
    All-weaker (Contains lists) (λ ss. IsWritablePattern (listed a ss)) (λ ss there. symbols_fit a ss below (breaking.only ss there)) lists
        (All-contains_itself lists),
  )

  pub lists_fit : (patterns : List Listed) → IsForbiddenList x patterns → IsWritable (answer.List patterns)
  lists_fit patterns is =
      let both = list_fits (BreakingFillings x) listed IsWritablePattern x.nodes 65536 here_fits x.nodes patterns (omega arith) is in
      let many : length patterns ≤ x.nodes * 65536 = both.0 in
      let nodes : x.nodes ≤ 4 = rule.nodes.1 in
      (omega (arith, many, nodes), both.1)

-- ---- what is listed

same_symbols : (n a : ℕ) (ss ts : List ℕ) → listed n ss ≡ listed a ts → (n ≡ a) × (ss ≡ ts)
same_symbols n a ss ts is = (ap (λ (p : Listed). p.node) is, ap (λ (p : Listed). p.symbols) is)

listed_from : (n a : ℕ) (lists : List (List ℕ)) (ss : List ℕ) → Contains (map (listed n) lists) (listed a ss) → (n ≡ a) × Contains lists ss
listed_from n a [] ss there = absurd (omega (arith, there.1))
listed_from n a (ts ∷ lists) ss (zero, below, is) = let same = same_symbols n a ts ss is in (same.0, (zero, omega arith, same.1))
listed_from n a (ts ∷ lists) ss (suc i, below, is) =
    let later = listed_from n a lists ss (i, omega (arith, below), is) in
    (later.0, (suc later.1.0, omega (arith, later.1.1), later.1.2))

listed_to : (a : ℕ) (lists : List (List ℕ)) (ss : List ℕ) → Contains lists ss → Contains (map (listed a) lists) (listed a ss)
listed_to a [] ss there = absurd (omega (arith, there.1))
listed_to a (ts ∷ lists) ss (zero, below, is) = (zero, omega arith, ap (listed a) is)
listed_to a (ts ∷ lists) ss (suc i, below, is) =
    let later = listed_to a lists ss (i, omega (arith, below), is) in (suc later.0, omega (arith, later.1), later.2)

module _ (x : LocalRule) (a : ℕ) (ss : List ℕ) where
  breaks_at : (n : ℕ) (patterns : List Listed) → IsListTo (BreakingFillings x) listed n patterns → Contains patterns (listed a ss) → IsBreaking x a ss
  breaks_at zero patterns is there = absurd (let none = there.1 in let few : length patterns ≡ 0 = ap length is in omega (arith, none, few))
  breaks_at (suc n) patterns is there =
      let here : Contains (is.before ++ map (listed n) is.here) (listed a ss) = subst (λ (ps : List Listed). Contains ps (listed a ss)) is.whole there in
      elim (Contains-append_cases is.before (map (listed n) is.here) (listed a ss) here) [
        | inl early ↦ breaks_at n is.before is.is_before early
        | inr late ↦
            let found = listed_from n a is.here ss late in
            subst (λ (m : ℕ). IsBreaking x m ss) found.0 (is.is_here.only ss found.1)
      ]

  listed_at : (n : ℕ) (patterns : List Listed) → IsListTo (BreakingFillings x) listed n patterns → a < n → IsBreaking x a ss → Contains patterns (listed a ss)
  listed_at zero patterns is below breaking = absurd (omega arith)
  listed_at (suc n) patterns is below breaking =
      subst (λ (ps : List Listed). Contains ps (listed a ss)) (sym is.whole)
      (elim (cases_lt a n) [
        | inl low ↦ Contains-append_left is.before (map (listed n) is.here) (listed a ss) (listed_at n is.before is.is_before low breaking)
        | inr high ↦
            let same : a ≡ n = omega (arith, high, below) in
            let here : Contains is.here ss = is.is_here.each ss (subst (λ (m : ℕ). IsBreaking x m ss) same breaking) in
            let found : Contains (map (listed n) is.here) (listed a ss) =
            subst (λ (m : ℕ). Contains (map (listed n) is.here) (listed m ss)) (sym same) (listed_to n is.here ss here) in
            Contains-append_right is.before (map (listed n) is.here) (listed a ss) found
      ])

pub listed_break : (x : LocalRule) (patterns : List Listed) (a : ℕ) (ss : List ℕ) → IsForbiddenList x patterns → a < x.nodes →
    Contains patterns (listed a ss) ↔ IsBreaking x a ss
listed_break x patterns a ss is below = (breaks_at x a ss x.nodes patterns is, listed_at x a ss x.nodes patterns is below)
