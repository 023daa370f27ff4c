-- Steps of the loops of the search, and of the loop that lists the cells at some positions.
use Rattle.std.proofs.Common.{◌≡◌, ◌<◌, ◌≤◌, ◌+◌, ◌-◌, max, ℕ, zero, suc, Bool, true, false, cond, List, [], ◌∷◌, ◌++◌, length, get_or, map, take, drop, refl, sym, ◌∙◌, ap, arith}
use Rattle.std.proofs.lemmas.List.{append_assoc, append-nil, map-append, length-append, take-append-drop, take_more, map_more}
use Rattle.std.proofs.lemmas.List.{Elements.filter-append, Concat.flat_map-append, FromFn.map-range_with_len_more}
use Rattle.std.specs.{Prelude.filter, List.flat_map, List.range_with_len}
use Rattle.dd_lattice.specs.{Place.Place, Cells.cell, declared.position.Cell.Cell}
use Rattle.dd_expansion.specs.Limits.{greatest}
use Rattle.dd_formula.specs.{LocalRule.LocalRule, LocalRule.rule_allows, lemmas.Ranges.push_from}
use Rattle.dd_rows.specs.{listing.Levels.extended_below, lemmas.Lists.greatest_push, declared.fault.RowsFault.RowsFault}
use Rattle.dd_rows.specs.{declared.fault.RowsFault.TheVariants.Large, declared.fault.RowsFault.TheVariants.Memory, Faults.OnLarge}

one_or_none : {X Y : Type 0} (f : X → Y) (b : Bool) (x : X) → map f (cond b (x ∷ []) []) ≡ cond b (f x ∷ []) []
one_or_none f true x = refl
one_or_none f false x = refl

kept_one : {X : Type 0} (p : X → Bool) (b : Bool) (x : X) → filter p (cond b (x ∷ []) []) ≡ cond b (cond (p x) (x ∷ []) []) []
kept_one p true x = refl
kept_one p false x = refl

-- the lists that one more symbol adds
pub extended_one : (x : LocalRule) (q : List ℕ → Bool) (a : ℕ) (ss : List ℕ) (n : ℕ) →
    extended_below x q a ss (suc n)
    ≡ extended_below x q a ss n ++ cond (rule_allows x a n) (cond (q (ss ++ n ∷ [])) ((ss ++ n ∷ []) ∷ []) []) []
extended_one x q a ss n =
    let p : ℕ → Bool = rule_allows x a in
    let f : ℕ → List ℕ = λ s. ss ++ s ∷ [] in
    let old = range_with_len 0 n in
    let last : range_with_len 0 (suc n) ≡ old ++ n ∷ [] = push_from 0 n ∙ ap (λ i. old ++ i ∷ []) (let same : 0 + n ≡ n = omega arith in same) in
    ap (λ is. filter q (map f (filter p is))) last
    ∙ (ap (λ is. filter q (map f is)) (filter-append p old (n ∷ []))
    ∙ (ap (filter q) (map-append f (filter p old) (filter p (n ∷ [])))
    ∙ (filter-append q (map f (filter p old)) (map f (filter p (n ∷ [])))
    ∙ ap (λ more. filter q (map f (filter p old)) ++ more) (ap (filter q) (one_or_none f (p n) n) ∙ kept_one q (p n) (f n)))))

-- a longer range of symbols gives no fewer lists
pub extended_grows : (x : LocalRule) (q : List ℕ → Bool) (a : ℕ) (ss : List ℕ) (n k : ℕ) →
    length (extended_below x q a ss n) ≤ length (extended_below x q a ss (n + k))
extended_grows x q a ss n zero =
    let same : n ≡ n + 0 = omega arith in
    let even : length (extended_below x q a ss n) ≡ length (extended_below x q a ss (n + 0)) = ap (λ m. length (extended_below x q a ss m)) same in
    omega (arith, even)
extended_grows x q a ss n (suc k) =
    let same : suc (n + k) ≡ n + suc k = omega arith in
    let even : length (extended_below x q a ss (suc (n + k))) ≡ length (extended_below x q a ss (n + suc k)) = ap (λ m. length (extended_below x q a ss m)) same in
    let before = extended_grows x q a ss n k in
    let more = ap length (extended_one x q a ss (n + k)) in
    let split = length-append (extended_below x q a ss (n + k)) (cond (rule_allows x a (n + k)) (cond (q (ss ++ (n + k) ∷ [])) ((ss ++ (n + k) ∷ []) ∷ []) []) []) in
    omega (arith, even, before, more, split)

-- one more symbol that is allowed and with which the list passes the test
pub extended_kept : (x : LocalRule) (q : List ℕ → Bool) (a : ℕ) (ss new : List ℕ) (n m : ℕ) → m ≡ suc n → rule_allows x a n ≡ true → new ≡ ss ++ n ∷ [] →
    q new ≡ true → extended_below x q a ss m ≡ extended_below x q a ss n ++ new ∷ []
extended_kept x q a ss new n m next allowed is kept =
    ap (λ i. extended_below x q a ss i) next
    ∙ (extended_one x q a ss n
    ∙ (ap (λ b. extended_below x q a ss n ++ cond b (cond (q (ss ++ n ∷ [])) ((ss ++ n ∷ []) ∷ []) []) []) allowed
    ∙ (ap (λ (ts : List ℕ). extended_below x q a ss n ++ cond (q ts) (ts ∷ []) []) (sym is)
    ∙ ap (λ b. extended_below x q a ss n ++ cond b (new ∷ []) []) kept)))

-- one more symbol that is allowed, but with which the list fails the test
pub extended_cut : (x : LocalRule) (q : List ℕ → Bool) (a : ℕ) (ss new : List ℕ) (n m : ℕ) → m ≡ suc n → rule_allows x a n ≡ true → new ≡ ss ++ n ∷ [] →
    q new ≡ false → extended_below x q a ss m ≡ extended_below x q a ss n
extended_cut x q a ss new n m next allowed is cut =
    ap (λ i. extended_below x q a ss i) next
    ∙ (extended_one x q a ss n
    ∙ (ap (λ b. extended_below x q a ss n ++ cond b (cond (q (ss ++ n ∷ [])) ((ss ++ n ∷ []) ∷ []) []) []) allowed
    ∙ (ap (λ (ts : List ℕ). extended_below x q a ss n ++ cond (q ts) (ts ∷ []) []) (sym is)
    ∙ (ap (λ b. extended_below x q a ss n ++ cond b (new ∷ []) []) cut ∙ append-nil (extended_below x q a ss n)))))

-- one more symbol that the node doesn't allow
pub extended_barred : (x : LocalRule) (q : List ℕ → Bool) (a : ℕ) (ss : List ℕ) (n m : ℕ) → m ≡ suc n → rule_allows x a n ≡ false →
    extended_below x q a ss m ≡ extended_below x q a ss n
extended_barred x q a ss n m next barred =
    ap (λ i. extended_below x q a ss i) next
    ∙ (extended_one x q a ss n
    ∙ (ap (λ b. extended_below x q a ss n ++ cond b (cond (q (ss ++ n ∷ [])) ((ss ++ n ∷ []) ∷ []) []) []) barred ∙ append-nil (extended_below x q a ss n)))

-- the first items of a list, up to and including the item at i, give at most as many results as all of its items
pub flat_map_grows : {X Y : Type 0} (f : X → List Y) (xs : List X) (i : ℕ) (d : X) → i < length xs → length (flat_map f (take i xs) ++ f (get_or xs i d)) ≤ length (flat_map f xs)
flat_map_grows f xs i d below =
    let first = take (i + 1) xs in
    let rest = drop (i + 1) xs in
    let all : flat_map f xs ≡ flat_map f first ++ flat_map f rest = ap (flat_map f) (sym (take-append-drop (i + 1) xs)) ∙ flat_map-append f first rest in
    let more : flat_map f first ≡ flat_map f (take i xs) ++ f (get_or xs i d) =
    ap (flat_map f) (take_more xs i d below) ∙ (flat_map-append f (take i xs) (get_or xs i d ∷ []) ∙ ap (λ ys. flat_map f (take i xs) ++ ys) (append-nil (f (get_or xs i d)))) in
    let sizes = ap length all in
    let split = length-append (flat_map f first) (flat_map f rest) in
    let same = ap length more in
    omega (arith, sizes, split, same)

pub flat_map_next : {X Y : Type 0} (f : X → List Y) (xs : List X) (i : ℕ) (d : X) → i < length xs → flat_map f (take (i + 1) xs) ≡ flat_map f (take i xs) ++ f (get_or xs i d)
flat_map_next f xs i d below =
    ap (flat_map f) (take_more xs i d below) ∙ (flat_map-append f (take i xs) (get_or xs i d ∷ []) ∙ ap (λ ys. flat_map f (take i xs) ++ ys) (append-nil (f (get_or xs i d))))

-- if `next` is full, and the symbol n gives one more list, then there are too many lists once all symbols below m have been tried, where m is above n
pub extended_large : (x : LocalRule) (q : List ℕ → Bool) (a : ℕ) (ss new : List ℕ) (n m most : ℕ) (old next : List (List ℕ)) → n < m → rule_allows x a n ≡ true → new ≡ ss ++ n ∷ [] →
    q new ≡ true → next ≡ old ++ extended_below x q a ss n → length next ≡ most → most < length (old ++ extended_below x q a ss m)
extended_large x q a ss new n m most old next below allowed is kept so_far full =
    let one = ap length (extended_kept x q a ss new n (suc n) refl allowed is kept) in
    let one_size = length-append (extended_below x q a ss n) (new ∷ []) in
    let k = m - suc n in
    let end : suc n + k ≡ m = omega (arith, below) in
    let more = extended_grows x q a ss (suc n) k in
    let even : length (extended_below x q a ss (suc n + k)) ≡ length (extended_below x q a ss m) = ap (λ i. length (extended_below x q a ss i)) end in
    let sizes = ap length so_far in
    let size = length-append old (extended_below x q a ss n) in
    let last = length-append old (extended_below x q a ss m) in
    omega (arith, one, one_size, more, even, sizes, size, last, full)

pub flat_map_large : {X Y : Type 0} (f : X → List Y) (xs : List X) (i most : ℕ) (d : X) (next : List Y) → i < length xs → next ≡ flat_map f (take i xs) → d ≡ get_or xs i d →
    most < length (next ++ f d) → most < length (flat_map f xs)
flat_map_large f xs i most d next below so_far at many =
    let grows = flat_map_grows f xs i d below in
    let same : length (next ++ f d) ≡ length (flat_map f (take i xs) ++ f (get_or xs i d)) = ap (λ ys. length (ys ++ f d)) so_far ∙ ap (λ e. length (flat_map f (take i xs) ++ f e)) at in
    omega (arith, grows, same, many)

pub on_large_weaker : (fault : RowsFault) (P Q : Type 0) → (P → Q) → OnLarge fault P → OnLarge fault Q
on_large_weaker Large P Q weaker h = weaker h
on_large_weaker Memory P Q weaker h = tt

pub greatest_next : (f : Cell → ℕ) (n : ℕ) (cs : List Cell) (i : ℕ) (d : Cell) (last r : ℕ) → i < length cs → last ≡ greatest (n ∷ map f (take i cs)) → d ≡ get_or cs i d →
    r ≡ max last (f d) → r ≡ greatest (n ∷ map f (take (i + 1) cs))
greatest_next f n cs i d last r below before at is =
    is ∙ (ap (λ m. max m (f d)) before
    ∙ (sym (greatest_push (n ∷ map f (take i cs)) (f d))
    ∙ ap (λ (ms : List ℕ). greatest (n ∷ ms)) (ap (λ e. map f (take i cs) ++ f e ∷ []) at ∙ sym (map_more f cs i d below))))

pub map_next : (f : Cell → ℕ) (cs : List Cell) (i : ℕ) (d : Cell) (old new : List ℕ) (n : ℕ) → i < length cs → old ≡ map f (take i cs) → d ≡ get_or cs i d → n ≡ f d →
    new ≡ old ++ n ∷ [] → new ≡ map f (take (i + 1) cs)
map_next f cs i d old new n below before at value is =
    is ∙ (ap (λ ms. ms ++ n ∷ []) before
    ∙ (ap (λ m. map f (take i cs) ++ m ∷ []) value
    ∙ (ap (λ e. map f (take i cs) ++ f e ∷ []) at ∙ sym (map_more f cs i d below))))

pub cells_next : (start old new : List Cell) (p : Place) (n : ℕ) → old ≡ start ++ map (cell p) (range_with_len 0 n) → new ≡ old ++ cell p n ∷ [] →
    new ≡ start ++ map (cell p) (range_with_len 0 (n + 1))
cells_next start old new p n before is =
    is ∙ (ap (λ (cs : List Cell). cs ++ cell p n ∷ []) before
    ∙ (append_assoc start (map (cell p) (range_with_len 0 n)) (cell p n ∷ [])
    ∙ ap (λ (cs : List Cell). start ++ cs) (sym (map-range_with_len_more (cell p) 0 n n (omega arith)))))
