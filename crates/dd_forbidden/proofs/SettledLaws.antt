-- What is listed when the symbols of the first cells settle the rule's truth.
use Rattle.std.proofs.Common.{◌≡◌, ◌<◌, ◌≤◌, ◌+◌, ℕ, zero, suc, Bool, true, false, cond, List, [], ◌∷◌, ◌++◌, refl, sym, ◌∙◌, ap, subst, arith}
use Rattle.std.proofs.lemmas.List.{append_assoc, append-nil, Elements.All-push}
use Rattle.std.specs.List.{flat_map, range_with_len}
use Rattle.dd_lattice.specs.declared.position.Cell.{Cell}
use Rattle.dd_numbered.specs.{declared.numbered.Numbered.Numbered, Numbered.holds_in, Numbered.IsSettled}
use Rattle.dd_formula.specs.LocalRule.{LocalRule, rule_allows}
use Rattle.dd_forbidden.specs.Breaking.{is_true_at_origin}
use Rattle.dd_forbidden.specs.listing.Extensions.{completions, extensions, AreSymbols}
use Rattle.dd_forbidden.specs.listing.Saying.{SaysRule}

-- the rule has the truth value b under every list of symbols that begins with ss
abbrev pub Settles : LocalRule → ℕ → List ℕ → Bool → Type 0
Settles r a ss b = (more : List ℕ) → AreSymbols r (ss ++ more) → is_true_at_origin r a (ss ++ more) ≡ b

pub settled_so : (r : LocalRule) (a : ℕ) (e : Numbered) (ss begun : List ℕ) (b value : Bool) → SaysRule r a e → begun ≡ ss → value ≡ b → IsSettled e begun value → Settles r a ss b
settled_so r a e ss begun b value says same is h more below =
    sym (says (ss ++ more) below) ∙ (subst (λ xs. (more : List ℕ) → holds_in e (xs ++ more) ≡ value) same h more ∙ is)

settles_on : (r : LocalRule) (a : ℕ) (ss : List ℕ) (s : ℕ) (b : Bool) → Settles r a ss b → Settles r a (ss ++ s ∷ []) b
settles_on r a ss s b h more below =
    let same = append_assoc ss (s ∷ []) more in
    ap (is_true_at_origin r a) same ∙ h (s ∷ more) (subst (AreSymbols r) same below)

settled_here : (r : LocalRule) (a : ℕ) (ss : List ℕ) (b : Bool) → AreSymbols r ss → Settles r a ss b → is_true_at_origin r a ss ≡ b
settled_here r a ss b below h = ap (is_true_at_origin r a) (sym (append-nil ss)) ∙ h [] (subst (AreSymbols r) (sym (append-nil ss)) below)

-- if two functions agree on all numbers below `most`, the concatenations of their lists over a range of such numbers are equal
agree : (f g : ℕ → List (List ℕ)) (k n most : ℕ) → k + n ≤ most → ((s : ℕ) → s < most → f s ≡ g s) → flat_map f (range_with_len k n) ≡ flat_map g (range_with_len k n)
agree f g k zero most within same = refl
agree f g k (suc n) most within same =
    ap (λ xs. xs ++ flat_map f (range_with_len (k + 1) n)) (same k (omega arith)) ∙ ap (λ xs. g k ++ xs) (agree f g (k + 1) n most (omega arith) same)

nothing_from : (k n : ℕ) → flat_map (λ (s : ℕ). let none : List (List ℕ) = [] in none) (range_with_len k n) ≡ []
nothing_from k zero = refl
nothing_from k (suc n) = nothing_from (k + 1) n

cond_none : (b : Bool) → cond b (let none : List (List ℕ) = [] in none) [] ≡ []
cond_none true = refl
cond_none false = refl

-- where the symbols settle that the rule is true, nothing is listed
pub none_broken : (r : LocalRule) (a : ℕ) (cs : List Cell) (ss : List ℕ) → AreSymbols r ss → Settles r a ss true → extensions r a cs ss ≡ []
none_broken r a [] ss below h = ap (λ b. cond b [] (ss ∷ [])) (settled_here r a ss true below h)
none_broken r a (c ∷ cs) ss below h =
    agree (λ s. cond (rule_allows r c.node s) (extensions r a cs (ss ++ s ∷ [])) []) (λ s. []) 0 r.symbols r.symbols (omega arith)
    (λ s within. ap (λ xs. cond (rule_allows r c.node s) xs []) (none_broken r a cs (ss ++ s ∷ []) (All-push (λ t. t < r.symbols) ss s below within) (settles_on r a ss s true h)) ∙ cond_none (rule_allows r c.node s))
    ∙ nothing_from 0 r.symbols

-- where the symbols settle that the rule is false, all fillings with allowed symbols are listed
pub all_broken : (r : LocalRule) (a : ℕ) (cs : List Cell) (ss : List ℕ) → AreSymbols r ss → Settles r a ss false → extensions r a cs ss ≡ completions r cs ss
all_broken r a [] ss below h = ap (λ b. cond b [] (ss ∷ [])) (settled_here r a ss false below h)
all_broken r a (c ∷ cs) ss below h =
    agree (λ s. cond (rule_allows r c.node s) (extensions r a cs (ss ++ s ∷ [])) []) (λ s. cond (rule_allows r c.node s) (completions r cs (ss ++ s ∷ [])) []) 0 r.symbols r.symbols (omega arith)
    (λ s within. ap (λ xs. cond (rule_allows r c.node s) xs []) (all_broken r a cs (ss ++ s ∷ []) (All-push (λ t. t < r.symbols) ss s below within) (settles_on r a ss s false h)))
