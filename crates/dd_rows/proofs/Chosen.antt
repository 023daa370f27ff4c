-- Cells chosen by the numbers that a list gives them.
use Rattle.std.proofs.Common.{◌≡◌, ◌<◌, ◌≤◌, ◌+◌, pos, ℕ, zero, suc, Bool, true, false, cond, List, [], ◌∷◌, ◌++◌, length, get_or, map, take, refl, sym, ◌∙◌, ap, arith}
use Rattle.std.proofs.{Math.ListN.set, lemmas.Bool.eq-eqb, lemmas.Bool.ne_eqb, lemmas.Bool.false≢true, lemmas.List.append-nil}
use Rattle.std.proofs.lemmas.List.FromFn.{get_or-map-range_with_len}
use Rattle.std.specs.{Prelude.filter, Bool.nat_eq, List.range_with_len}
use Rattle.dd_lattice.specs.{Place.place, declared.position.Cell.Cell}
use Rattle.dd_rows.specs.listing.Levels.{chosen}

moved_in : (b : Bool) (c : Cell) (xs ys zs : List Cell) → xs ≡ ys ++ zs → cond b (c ∷ xs) xs ≡ cond b (c ∷ ys) ys ++ zs
moved_in true c xs ys zs is = ap (λ (ws : List Cell). c ∷ ws) is
moved_in false c xs ys zs is = is

pub chosen_more : (ns : List ℕ) (cs : List Cell) (k i : ℕ) (d : Cell) → i < length ns → i < length cs →
    chosen (take (suc i) ns) (take (suc i) cs) k ≡ chosen (take i ns) (take i cs) k ++ cond (nat_eq (get_or ns i 0) k) (get_or cs i d ∷ []) []
chosen_more [] cs k i d h h' = absurd (omega arith)
chosen_more (n ∷ ns) [] k i d h h' = absurd (omega arith)
chosen_more (n ∷ ns) (c ∷ cs) k zero d h h' = refl
chosen_more (n ∷ ns) (c ∷ cs) k (suc i) d h h' =
    moved_in (nat_eq n k) c _ (chosen (take i ns) (take i cs) k) (cond (nat_eq (get_or ns i 0) k) (get_or cs i d ∷ []) [])
    (chosen_more ns cs k i d (omega arith) (omega arith))

pub chosen_by : (f : Cell → ℕ) (cs : List Cell) (k : ℕ) → chosen (map f cs) cs k ≡ filter (λ c. nat_eq (f c) k) cs
chosen_by f [] k = refl
chosen_by f (c ∷ cs) k = ap (λ (xs : List Cell). cond (nat_eq (f c) k) (c ∷ xs) xs) (chosen_by f cs k)

-- two functions that agree on a range
pub same_mapped : {Y : Type 0} (f g : ℕ → Y) (a n : ℕ) → ((k : ℕ) → a ≤ k → k < a + n → f k ≡ g k) → map f (range_with_len a n) ≡ map g (range_with_len a n)
same_mapped f g a zero same = refl
same_mapped {Y} f g a (suc n) same =
    ap (λ y. y ∷ map f (range_with_len (a + 1) n)) (same a (omega arith) (omega arith))
    ∙ ap (λ (ys : List Y). g a ∷ ys) (same_mapped f g (a + 1) n (λ k low high. same k (omega (arith, low)) (omega (arith, high))))

-- two functions that agree except at one number
pub set_mapped : {Y : Type 0} (f g : ℕ → Y) (a n j : ℕ) (y : Y) → j < n → y ≡ g (a + j) → ((k : ℕ) → (k ≡ a + j → ⊥) → f k ≡ g k) → set (map f (range_with_len a n)) j y ≡ map g (range_with_len a n)
set_mapped f g a zero j y below is same = absurd (omega (arith, below))
set_mapped {Y} f g a (suc n) zero y below is same =
    let here : a + 0 ≡ a = omega arith in
    ap (λ z. z ∷ map f (range_with_len (a + 1) n)) (is ∙ ap g here)
    ∙ ap (λ (ys : List Y). g a ∷ ys) (same_mapped f g (a + 1) n (λ k low high. same k (λ e. omega (arith, low, e))))
set_mapped {Y} f g a (suc n) (suc j) y below is same =
    let next : a + suc j ≡ (a + 1) + j = omega arith in
    ap (λ z. z ∷ set (map f (range_with_len (a + 1) n)) j y) (same a (λ e. omega (arith, e)))
    ∙ ap (λ (ys : List Y). g a ∷ ys) (set_mapped f g (a + 1) n j y (omega (arith, below)) (is ∙ ap g next) (λ k apart. same k (λ e. apart (e ∙ next))))

kept_if : (b : Bool) (xs : List Cell) (c : Cell) → b ≡ false → xs ≡ xs ++ cond b (c ∷ []) []
kept_if true xs c h = absurd (false≢true (sym h))
kept_if false xs c h = sym (append-nil xs)

-- the list of a number k stays as it is if the next cell has another number
pub chosen_left : (ns : List ℕ) (cs : List Cell) (k i : ℕ) → i < length ns → i < length cs → (get_or ns i 0 ≡ k → ⊥) →
    chosen (take i ns) (take i cs) k ≡ chosen (take (i + 1) ns) (take (i + 1) cs) k
chosen_left ns cs k i h h' other =
    let d : Cell = record { position = place (pos 0) (pos 0) (pos 0); node = 0 } in
    let next : suc i ≡ i + 1 = omega arith in
    kept_if (nat_eq (get_or ns i 0) k) (chosen (take i ns) (take i cs) k) (get_or cs i d) (ne_eqb (get_or ns i 0) k other)
    ∙ (sym (chosen_more ns cs k i d h h') ∙ ap (λ j. chosen (take j ns) (take j cs) k) next)

-- the next cell is appended to the list of its own number k
pub chosen_kept : (ns : List ℕ) (cs : List Cell) (k i : ℕ) (d : Cell) → i < length ns → i < length cs → get_or ns i 0 ≡ k →
    chosen (take i ns) (take i cs) k ++ get_or cs i d ∷ [] ≡ chosen (take (i + 1) ns) (take (i + 1) cs) k
chosen_kept ns cs k i d h h' is =
    let next : suc i ≡ i + 1 = omega arith in
    ap (λ b. chosen (take i ns) (take i cs) k ++ cond b (get_or cs i d ∷ []) []) (sym (eq-eqb (get_or ns i 0) k is))
    ∙ (sym (chosen_more ns cs k i d h h') ∙ ap (λ j. chosen (take j ns) (take j cs) k) next)

-- the lists of all numbers, after one more cell is put into the list of its number
pub put_in : (ns : List ℕ) (cs : List Cell) (n i number : ℕ) (d : Cell) (list pushed : List Cell) (old new : List (List Cell)) → i < length ns → i < length cs → number ≡ get_or ns i 0 → number < n →
    old ≡ map (chosen (take i ns) (take i cs)) (range_with_len 0 n) → list ≡ get_or old number list → d ≡ get_or cs i d → pushed ≡ list ++ d ∷ [] → new ≡ set old number pushed →
    new ≡ map (chosen (take (i + 1) ns) (take (i + 1) cs)) (range_with_len 0 n)
put_in ns cs n i number d list pushed old new h h' of below before lent at more is =
    let f : ℕ → List Cell = chosen (take i ns) (take i cs) in
    let g : ℕ → List Cell = chosen (take (i + 1) ns) (take (i + 1) cs) in
    let none : number ≡ 0 + number = omega arith in
    let here : list ≡ f number = lent ∙ (ap (λ ls. get_or ls number list) before ∙ get_or-map-range_with_len f 0 n number number list below (omega arith)) in
    let one : pushed ≡ g (0 + number) =
    more ∙ (ap (λ (ds : List Cell). ds ++ d ∷ []) here ∙ (ap (λ e. f number ++ e ∷ []) at ∙ (chosen_kept ns cs number i d h h' (sym of) ∙ ap g none))) in
    is ∙ (ap (λ ls. set ls number pushed) before ∙ set_mapped f g 0 n number pushed below one (λ k apart. chosen_left ns cs k i h h' (λ e. apart (omega (arith, of, e)))))

-- a cell whose number is past the range is left out
pub left_out : (ns : List ℕ) (cs : List Cell) (n i : ℕ) (old new : List (List Cell)) → i < length ns → i < length cs → n ≤ get_or ns i 0 →
    old ≡ map (chosen (take i ns) (take i cs)) (range_with_len 0 n) → new ≡ old → new ≡ map (chosen (take (i + 1) ns) (take (i + 1) cs)) (range_with_len 0 n)
left_out ns cs n i old new h h' past before is =
    is ∙ (before ∙ same_mapped (chosen (take i ns) (take i cs)) (chosen (take (i + 1) ns) (take (i + 1) cs)) 0 n (λ k low high. chosen_left ns cs k i h h' (λ e. omega (arith, high, past, e))))
