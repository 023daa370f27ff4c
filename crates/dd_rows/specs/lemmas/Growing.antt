-- The fillings when one more cell is filled.
use Rattle.std.proofs.Common.{◌≡◌, ◌<◌, ◌≤◌, ◌+◌, ℕ, Bool, List, [], ◌∷◌, ◌++◌, length, get_or, map, take, refl, sym, ◌∙◌, ap, subst, inl, inr, arith}
use Rattle.std.proofs.lemmas.Bool.{cases_lt}
use Rattle.std.proofs.lemmas.List.{append-nil, take_more, length-append, length-take-le}
use Rattle.std.proofs.lemmas.List.Elements.{All-filter, All-nil, All-push}
use Rattle.std.proofs.lemmas.List.{FromFn.length-range_with_len, FromFn.get_or-range_with_len, Folds.flat_map-map}
use Rattle.std.proofs.lemmas.{List.Concat.flat_map_single, Simd.map-map}
use Rattle.std.specs.{Prelude.filter, List.All, List.flat_map, List.range_with_len, List.Sorted.IsStrictlySortedBy}
use Rattle.dd_lattice.specs.{Order.cell_cmp, declared.position.Cell.Cell}
use Rattle.dd_numbered.specs.declared.numbered.Numbered.{Numbered}
use Rattle.dd_formula.specs.LocalRule.{LocalRule, rule_allows}
use Rattle.dd_rows.specs.Fillings.{allowed_symbols, words, is_admissible, fillings, most_fillings}
use Rattle.dd_rows.specs.listing.Levels.{AreInRange, IsWord, AreWords, are_true, extended, settled}
use Rattle.dd_rows.specs.listing.Formulas.{SayTrue, are_all_true}
use Rattle.dd_rows.specs.lemmas.Lists.{filter_agree, flat_map_same, flat_map_flat_map, filter_flat_map, flat_map_filter, filter_if}
use Rattle.dd_rows.specs.lemmas.{Ready.admissible_parts, FormulaLaws.settled_truth}
use Rattle.dd_values.specs.lemmas.Lists.{flat_map_agree, map_flat_map, all_cons, all_map, all_flat_map}

-- ss with one more symbol at its end, for each symbol that the node a allows
abbrev longer : LocalRule → ℕ → List ℕ → List (List ℕ)
longer x a ss = map (λ s. ss ++ s ∷ []) (allowed_symbols x a)

words_more : (x : LocalRule) (cs : List Cell) (c : Cell) → words x (cs ++ c ∷ []) ≡ flat_map (longer x c.node) (words x cs)
words_more x [] c = flat_map_single (λ s. s ∷ []) (allowed_symbols x c.node) ∙ sym (append-nil (longer x c.node []))
words_more x (d ∷ cs) c =
    let ws = words x cs in
    let g : List ℕ → List (List ℕ) = longer x c.node in
    let begun : ℕ → List (List ℕ) = λ s. map (λ ss. s ∷ ss) ws in
    flat_map_agree (λ s. map (λ ss. s ∷ ss) (words x (cs ++ c ∷ []))) (λ s. flat_map g (begun s))
    (λ s. ap (map (λ ss. s ∷ ss)) (words_more x cs c)
    ∙ (map_flat_map (λ ss. s ∷ ss) g ws
    ∙ (flat_map_agree (λ ss. map (λ ts. s ∷ ts) (g ss)) (λ ss. g (s ∷ ss)) (λ ss. map-map (λ ts. s ∷ ts) (λ t. ss ++ t ∷ []) (allowed_symbols x c.node)) ws
    ∙ sym (flat_map-map g (λ ss. s ∷ ss) ws))))
    (allowed_symbols x d.node)
    ∙ sym (flat_map_flat_map g begun (allowed_symbols x d.node))

-- lists whose members all have a property

pub range_below : (n : ℕ) → All (λ s. s < n) (range_with_len 0 n)
range_below n = λ k d within.
    let size = length-range_with_len 0 n in
    let below : k < n = omega (arith, within, size) in
    let at = get_or-range_with_len 0 n k d below in
    omega (arith, at, below)

choices_below : (x : LocalRule) (a : ℕ) → All (λ s. s < x.symbols) (allowed_symbols x a)
choices_below x a = All-filter (rule_allows x a) (λ s. s < x.symbols) (range_with_len 0 x.symbols) (range_below x.symbols)

words_are : (x : LocalRule) (cs : List Cell) → AreWords x (length cs) (words x cs)
words_are x [] = all_cons (IsWord x 0) [] [] (record { size = refl; below = All-nil (λ s. s < x.symbols) }) (All-nil (IsWord x 0))
words_are x (c ∷ cs) =
    all_flat_map (IsWord x (length (c ∷ cs))) (λ s. s < x.symbols) (λ s. map (λ ss. s ∷ ss) (words x cs))
    (λ s low. all_map (IsWord x (length (c ∷ cs))) (IsWord x (length cs)) (λ ss. s ∷ ss)
    (λ ss w. record { size = omega (arith, w.size); below = all_cons (λ t. t < x.symbols) s ss low w.below })
    (words x cs) (words_are x cs))
    (allowed_symbols x c.node) (choices_below x c.node)

pub fillings_are : (x : LocalRule) (cs : List Cell) → AreWords x (length cs) (fillings x cs)
fillings_are x cs = All-filter (is_admissible x cs) (IsWord x (length cs)) (words x cs) (words_are x cs)

-- the admissible fillings of the first j + 1 cells, made from those of the first j cells
pub fillings_more : (x : LocalRule) (all : List Cell) → IsStrictlySortedBy cell_cmp all → AreInRange all → (j : ℕ) (c : Cell) → j < length all → get_or all j c ≡ c →
    fillings x (take (j + 1) all) ≡ flat_map (extended x (are_true x (take (j + 1) all) (settled x all j)) c.node) (fillings x (take j all))
fillings_more x all up near j c below is =
    let first = take j all in
    let next = take (j + 1) all in
    let p : List ℕ → Bool = is_admissible x next in
    let q : List ℕ → Bool = is_admissible x first in
    let r : List ℕ → Bool = are_true x next (settled x all j) in
    let split : next ≡ first ++ c ∷ [] = take_more all j c below ∙ ap (λ (d : Cell). first ++ d ∷ []) is in
    let size : length first ≡ j = length-take-le j all (omega (arith, below)) in
    ap (λ cs. filter p (words x cs)) split
    ∙ (ap (filter p) (words_more x first c)
    ∙ (filter_flat_map p (longer x c.node) (words x first)
    ∙ flat_map_filter (IsWord x j) q (λ ss. filter p (longer x c.node ss)) (extended x r c.node)
    (λ ss w. filter_if p r (q ss) (λ s. ss ++ s ∷ []) (λ s. admissible_parts x all up near j ss s below w.size) (allowed_symbols x c.node))
    (words x first) (subst (λ n. AreWords x n (words x first)) size (words_are x first))))

-- two tests that agree on the longer lists keep the same lists
same_longer : (x : LocalRule) (j a : ℕ) (p q : List ℕ → Bool) → ((ss : List ℕ) → IsWord x (j + 1) ss → p ss ≡ q ss) → (ss : List ℕ) → IsWord x j ss → extended x p a ss ≡ extended x q a ss
same_longer x j a p q same ss w =
    filter_agree (IsWord x (j + 1)) p q same (longer x a ss)
    (all_map (IsWord x (j + 1)) (λ s. s < x.symbols) (λ s. ss ++ s ∷ [])
    (λ s low. record { size = length-append ss (s ∷ []) ∙ ap (λ n. n + 1) w.size; below = All-push (λ t. t < x.symbols) ss s w.below low })
    (allowed_symbols x a) (choices_below x a))

-- the next level of the search, made from this one
pub level_next : (x : LocalRule) (all : List Cell) → IsStrictlySortedBy cell_cmp all → AreInRange all → (j : ℕ) (c : Cell) → j < length all → get_or all j c ≡ c →
    (places : List Cell) (es : List Numbered) (level : List (List ℕ)) → SayTrue x (take (j + 1) all) places es → places ≡ settled x all j → level ≡ fillings x (take j all) →
    flat_map (extended x (are_all_true es) c.node) level ≡ fillings x (take (j + 1) all)
level_next x all up near j c below is places es level says settle so_far =
    let next = take (j + 1) all in
    let q : List ℕ → Bool = are_true x next (settled x all j) in
    let size : length (take j all) ≡ j = length-take-le j all (omega (arith, below)) in
    ap (λ (ls : List (List ℕ)). flat_map (extended x (are_all_true es) c.node) ls) so_far
    ∙ (flat_map_same (IsWord x j) (extended x (are_all_true es) c.node) (extended x q c.node)
    (same_longer x j c.node (are_all_true es) q (λ ss w. settled_truth x all near j below ss w.size w.below es (subst (λ (ps : List Cell). SayTrue x next ps es) settle says)))
    (fillings x (take j all)) (subst (λ n. AreWords x n (fillings x (take j all))) size (fillings_are x (take j all)))
    ∙ sym (fillings_more x all up near j c below is))

pub few_next : (x : LocalRule) (all : List Cell) (k : ℕ) → ((i : ℕ) → i ≤ k → length (fillings x (take i all)) ≤ most_fillings) →
    length (fillings x (take (k + 1) all)) ≤ most_fillings → (i : ℕ) → i ≤ k + 1 → length (fillings x (take i all)) ≤ most_fillings
few_next x all k before now i le = elim (cases_lt i (k + 1)) [
  | inl low ↦ before i (omega (arith, low))
  | inr high ↦ (let P : ℕ → Type 0 = λ n. length (fillings x (take n all)) ≤ most_fillings in let same : k + 1 ≡ i = omega (arith, high, le) in subst P same now)
]
