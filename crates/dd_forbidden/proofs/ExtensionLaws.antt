-- The extensions of the empty list of symbols are exactly the breaking fillings, each once and in order.
use Rattle.std.proofs.Common.{◌≡◌, ◌<◌, ◌+◌, ℕ, zero, suc, Bool, true, false, cond, List, [], ◌∷◌, ◌++◌, length, get_or, refl, sym, ◌∙◌, ap, subst, inl, inr, arith}
use Rattle.std.proofs.lemmas.Bool.{and_parts, and_from, false≢true}
use Rattle.std.proofs.lemmas.List.{append_assoc, append-nil, Elements.All-get_or}
use Rattle.std.specs.{List.Contains, List.flat_map, List.range_with_len, List.Sorted.IsStrictlySortedBy, Ordering.nat_cmp}
use Rattle.std.specs.{Cmp.Lexicographic.slice_cmp, declared.cmp.Ordering.TheVariants.Less}
use Rattle.dd_lattice.specs.declared.position.Cell.{Cell}
use Rattle.dd_topology.specs.{Sets.IsRow, lemmas.ListLaws.into_flat_map}
use Rattle.dd_formula.specs.LocalRule.{LocalRule, rule_allows, cells_at, IsRule}
use Rattle.dd_formula.specs.lemmas.AllowedLaws.{allowed_below}
use Rattle.dd_forbidden.specs.Breaking.{are_allowed, is_true_at_origin, IsBreaking, BreakingFillings}
use Rattle.dd_forbidden.specs.listing.Extensions.{extensions}
use Rattle.dd_forbidden.proofs.Lists.{range_from, less_at}
use Rattle.dd_values.specs.lemmas.Members.{Contains-cons_cases, sorted_append, Contains-first, Contains-nil}
use Rattle.dd_values.specs.lemmas.Lists.{nothing_past, range_has, of_part}

-- ss is `start` followed by allowed symbols for the cells cs, and the rule is false under ss
record Extends (r : LocalRule) (a : ℕ) (cs : List Cell) (start ss : List ℕ) : Type 0 where
  rest : List ℕ
  is : ss ≡ start ++ rest
  allowed : are_allowed r cs rest ≡ true
  broken : is_true_at_origin r a ss ≡ false

abbrev branch : LocalRule → ℕ → Cell → List Cell → List ℕ → ℕ → List (List ℕ)
branch r a c cs start s = cond (rule_allows r c.node s) (extensions r a cs (start ++ s ∷ [])) []

whole : (r : LocalRule) (a : ℕ) (start ss : List ℕ) (b : Bool) → is_true_at_origin r a start ≡ b → Contains (cond b [] (start ∷ [])) ss → Extends r a [] start ss
whole r a start ss true h c = absurd (Contains-nil ss c)
whole r a start ss false h c = elim (Contains-cons_cases start [] ss c) [
  | inl same ↦ record { rest = []; is = sym same ∙ sym (append-nil start); allowed = refl; broken = ap (is_true_at_origin r a) (sym same) ∙ h }
  | inr none ↦ absurd (Contains-nil ss none)
]

longer : (r : LocalRule) (a : ℕ) (c : Cell) (cs : List Cell) (start ss : List ℕ) (s : ℕ) → rule_allows r c.node s ≡ true →
    Extends r a cs (start ++ s ∷ []) ss → Extends r a (c ∷ cs) start ss
longer r a c cs start ss s h e = record {
  rest = s ∷ e.rest;
  is = e.is ∙ append_assoc start (s ∷ []) e.rest;
  allowed = and_from (rule_allows r c.node s) (are_allowed r cs e.rest) h e.allowed;
  broken = e.broken;
}

in_branch : (r : LocalRule) (a : ℕ) (c : Cell) (cs : List Cell) (start ss : List ℕ) (s : ℕ) (b : Bool) → rule_allows r c.node s ≡ b →
    ((start : List ℕ) → Contains (extensions r a cs start) ss → Extends r a cs start ss) →
    Contains (cond b (extensions r a cs (start ++ s ∷ [])) []) ss → Extends r a cs (start ++ s ∷ []) ss × (rule_allows r c.node s ≡ true)
in_branch r a c cs start ss s true h below d = (below (start ++ s ∷ []) d, h)
in_branch r a c cs start ss s false h below d = absurd (Contains-nil ss d)

extends : (r : LocalRule) (a : ℕ) (cs : List Cell) (start ss : List ℕ) → Contains (extensions r a cs start) ss → Extends r a cs start ss
extends r a [] start ss d = whole r a start ss (is_true_at_origin r a start) refl d
extends r a (c ∷ cs) start ss d =
    let o = of_part (branch r a c cs start) (range_with_len 0 r.symbols) ss d in
    let e = in_branch r a c cs start ss o.part (rule_allows r c.node o.part) refl (λ begun. extends r a cs begun ss) o.within in
    longer r a c cs start ss o.part e.1 e.0

listed : (r : LocalRule) → IsRule r → (a : ℕ) (cs : List Cell) (start rest : List ℕ) → are_allowed r cs rest ≡ true → is_true_at_origin r a (start ++ rest) ≡ false →
    Contains (extensions r a cs start) (start ++ rest)
listed r ok a [] start [] al br =
    let same = append-nil start in
    let kept : is_true_at_origin r a start ≡ false = ap (is_true_at_origin r a) (sym same) ∙ br in
    rw (same, kept) (Contains-first start [])
listed r ok a [] start (s ∷ rest) al br = absurd (false≢true al)
listed r ok a (c ∷ cs) start [] al br = absurd (false≢true al)
listed r ok a (c ∷ cs) start (s ∷ rest) al br =
    let both = and_parts (rule_allows r c.node s) (are_allowed r cs rest) al in
    let whole = append_assoc start (s ∷ []) rest in
    let below = listed r ok a cs (start ++ s ∷ []) rest both.1 (ap (is_true_at_origin r a) whole ∙ br) in
    let begun : Contains (extensions r a cs (start ++ s ∷ [])) (start ++ s ∷ rest) = subst (Contains (extensions r a cs (start ++ s ∷ []))) whole below in
    let here : Contains (branch r a c cs start s) (start ++ s ∷ rest) = rw both.0 begun in
    into_flat_map (branch r a c cs start) (range_with_len 0 r.symbols) s (start ++ s ∷ rest) (range_has r.symbols s (allowed_below r ok c.node s both.0)) here

abbrev Ascends : List (List ℕ) → Type 0
Ascends lists = IsStrictlySortedBy (slice_cmp nat_cmp) lists

none_ascends : Ascends []
unfolding IsStrictlySortedBy
none_ascends = tt

one_ascends : (ss : List ℕ) → Ascends (ss ∷ [])
unfolding IsStrictlySortedBy
one_ascends ss = (tt, tt)

whole_ascends : (ss : List ℕ) (b : Bool) → Ascends (cond b [] (ss ∷ []))
whole_ascends ss true = none_ascends
whole_ascends ss false = one_ascends ss

branch_ascends : (lists : List (List ℕ)) (b : Bool) → Ascends lists → Ascends (cond b lists [])
branch_ascends lists true up = up
branch_ascends lists false up = none_ascends

before : (r : LocalRule) (a : ℕ) (c : Cell) (cs : List Cell) (start : List ℕ) (k s : ℕ) (ps qs : List ℕ) → k < s →
    Contains (branch r a c cs start k) ps → Contains (branch r a c cs start s) qs → slice_cmp nat_cmp ps qs ≡ Less
before r a c cs start k s ps qs less p q =
    let e = in_branch r a c cs start ps k (rule_allows r c.node k) refl (λ begun. extends r a cs begun ps) p in
    let f = in_branch r a c cs start qs s (rule_allows r c.node s) refl (λ begun. extends r a cs begun qs) q in
    let first = longer r a c cs start ps k e.1 e.0 in
    let second = longer r a c cs start qs s f.1 f.0 in
    ap (λ x. slice_cmp nat_cmp x qs) (e.0.is ∙ append_assoc start (k ∷ []) e.0.rest)
    ∙ (ap (slice_cmp nat_cmp (start ++ k ∷ e.0.rest)) (f.0.is ∙ append_assoc start (s ∷ []) f.0.rest) ∙ less_at start k s e.0.rest f.0.rest less)

branches_ascend : (r : LocalRule) (a : ℕ) (c : Cell) (cs : List Cell) (start : List ℕ) → ((s : ℕ) → Ascends (branch r a c cs start s)) →
    (n k : ℕ) → Ascends (flat_map (branch r a c cs start) (range_with_len k n))
branches_ascend r a c cs start each zero k = none_ascends
branches_ascend r a c cs start each (suc n) k =
    let f = branch r a c cs start in
    sorted_append (slice_cmp nat_cmp) (f k) (flat_map f (range_with_len (k + 1) n)) (each k) (branches_ascend r a c cs start each n (k + 1))
    (λ ps qs p q.
    let o = of_part f (range_with_len (k + 1) n) qs q in
    let later = range_from (k + 1) n o.part o.listed in
    before r a c cs start k o.part ps qs (omega (arith, later)) p o.within)

ascends : (r : LocalRule) (a : ℕ) (cs : List Cell) (start : List ℕ) → Ascends (extensions r a cs start)
ascends r a [] start = whole_ascends start (is_true_at_origin r a start)
ascends r a (c ∷ cs) start =
    branches_ascend r a c cs start (λ s. branch_ascends (extensions r a cs (start ++ s ∷ [])) (rule_allows r c.node s) (ascends r a cs (start ++ s ∷ []))) r.symbols 0

breaking_from : (r : LocalRule) (a : ℕ) (ss : List ℕ) → Extends r a (cells_at r a) [] ss → IsBreaking r a ss
breaking_from r a ss e = record { allowed = ap (are_allowed r (cells_at r a)) e.is ∙ e.allowed; broken = e.broken }

pub breaking_fillings : (r : LocalRule) → IsRule r → (a : ℕ) → BreakingFillings r a (extensions r a (cells_at r a) [])
breaking_fillings r ok a = record {
  ascending = ascends r a (cells_at r a) [];
  only = λ ss d. breaking_from r a ss (extends r a (cells_at r a) [] ss d);
  each = λ ss is. listed r ok a (cells_at r a) [] ss is.allowed is.broken;
}
