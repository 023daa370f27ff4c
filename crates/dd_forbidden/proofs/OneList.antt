-- There is only one list of all breaking fillings, each once and in order. It has at most as many items as there are fillings, and all its symbols are
-- in the alphabet.
use Rattle.std.proofs.Common.{◌≡◌, ◌<◌, ◌≤◌, ◌+◌, ◌*◌, ◌^◌, ℕ, zero, suc, Bool, true, false, cond, List, [], ◌∷◌, ◌++◌, length, sym, subst, arith}
use Rattle.std.proofs.{Math.Nat.pow-zero, Math.Nat.pow-succ', lemmas.Bool.and_parts, lemmas.Bool.false≢true}
use Rattle.std.proofs.lemmas.{Cmp.nat_list_cmp_total, List.length-append}
use Rattle.std.proofs.lemmas.List.Elements.{All-nil, All-cons}
use Rattle.std.specs.{List.All, List.flat_map, List.range_with_len, Ordering.nat_cmp, Cmp.Lexicographic.slice_cmp}
use Rattle.dd_lattice.specs.declared.position.Cell.{Cell}
use Rattle.dd_topology.specs.lemmas.OrderLaws.{same_sorted}
use Rattle.dd_formula.specs.LocalRule.{LocalRule, rule_allows, cells_at, IsRule}
use Rattle.dd_formula.specs.lemmas.AllowedLaws.{allowed_below}
use Rattle.dd_forbidden.specs.Breaking.{are_allowed, is_true_at_origin, IsBreaking, BreakingFillings}
use Rattle.dd_forbidden.specs.listing.Extensions.{extensions}
use Rattle.dd_forbidden.proofs.ExtensionLaws.{breaking_fillings}

pub one_list : (r : LocalRule) (a : ℕ) (xs ys : List (List ℕ)) → BreakingFillings r a xs → BreakingFillings r a ys → xs ≡ ys
one_list r a xs ys one other =
    same_sorted (slice_cmp nat_cmp) nat_list_cmp_total xs ys one.ascending other.ascending
    (λ q there. other.each q (one.only q there)) (λ q there. one.each q (other.only q there))

-- ---- the length of the list

joined_length : (f : ℕ → List (List ℕ)) (m : ℕ) → ((s : ℕ) → length (f s) ≤ m) → (k n : ℕ) → length (flat_map f (range_with_len k n)) ≤ n * m
joined_length f m each k zero = omega arith
joined_length f m each k (suc n) =
    let here : length (f k) ≤ m = each k in
    let later : length (flat_map f (range_with_len (k + 1) n)) ≤ n * m = joined_length f m each (k + 1) n in
    let both : length (f k ++ flat_map f (range_with_len (k + 1) n)) ≡ length (f k) + length (flat_map f (range_with_len (k + 1) n)) =
    length-append (f k) (flat_map f (range_with_len (k + 1) n)) in
    omega (arith, here, later, both)

kept_length : (ss : List ℕ) (b : Bool) → length (cond b [] (ss ∷ [])) ≤ 1
kept_length ss true = omega arith
kept_length ss false = omega arith

branch_length : (lists : List (List ℕ)) (b : Bool) (m : ℕ) → length lists ≤ m → length (cond b lists []) ≤ m
branch_length lists true m h = h
branch_length lists false m h = omega arith

extensions_length : (r : LocalRule) (a : ℕ) (cs : List Cell) (start : List ℕ) → length (extensions r a cs start) ≤ r.symbols ^ length cs
extensions_length r a [] start =
    let one : r.symbols ^ 0 ≡ 1 = pow-zero r.symbols in
    let few : length (cond (is_true_at_origin r a start) [] (start ∷ [])) ≤ 1 = kept_length start (is_true_at_origin r a start) in
    omega (arith, one, few)
extensions_length r a (c ∷ cs) start =
    let all : length (extensions r a (c ∷ cs) start) ≤ r.symbols * r.symbols ^ length cs =
    joined_length (λ s. cond (rule_allows r c.node s) (extensions r a cs (start ++ s ∷ [])) []) (r.symbols ^ length cs)
    (λ s. branch_length (extensions r a cs (start ++ s ∷ [])) (rule_allows r c.node s) (r.symbols ^ length cs) (extensions_length r a cs (start ++ s ∷ []))) 0 r.symbols in
    let power : r.symbols ^ suc (length cs) ≡ r.symbols * r.symbols ^ length cs = pow-succ' r.symbols (length cs) in
    omega (arith, all, power)

pub short_list : (r : LocalRule) (a : ℕ) (xs : List (List ℕ)) → IsRule r → BreakingFillings r a xs → length xs ≤ r.symbols ^ length (cells_at r a)
short_list r a xs ok is =
    let same : xs ≡ extensions r a (cells_at r a) [] = one_list r a xs (extensions r a (cells_at r a) []) is (breaking_fillings r ok a) in
    subst (λ (ys : List (List ℕ)). length ys ≤ r.symbols ^ length (cells_at r a)) (sym same) (extensions_length r a (cells_at r a) [])

-- ---- the symbols of a breaking filling

allowed_known : (r : LocalRule) (cs : List Cell) (ss : List ℕ) → IsRule r → are_allowed r cs ss ≡ true → All (λ s. s < r.symbols) ss
allowed_known r [] [] ok h = All-nil (λ s. s < r.symbols)
allowed_known r [] (s ∷ ss) ok h = absurd (false≢true h)
allowed_known r (c ∷ cs) [] ok h = absurd (false≢true h)
allowed_known r (c ∷ cs) (s ∷ ss) ok h =
    let both = and_parts (rule_allows r c.node s) (are_allowed r cs ss) h in
    All-cons (λ t. t < r.symbols) s ss (allowed_below r ok c.node s both.0) (allowed_known r cs ss ok both.1)

pub known_symbols : (r : LocalRule) (a : ℕ) (ss : List ℕ) → IsRule r → IsBreaking r a ss → All (λ s. s < r.symbols) ss
known_symbols r a ss ok is = allowed_known r (cells_at r a) ss ok is.allowed
