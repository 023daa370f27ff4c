-- Steps of the loops that collect lists.
use Rattle.std.proofs.Common.{◌≡◌, ◌<◌, ◌≤◌, ◌+◌, ℕ, List, [], ◌∷◌, ◌++◌, length, get_or, map, take, drop, refl, sym, ◌∙◌, ap, arith}
use Rattle.std.proofs.lemmas.List.{append_assoc, map-append, map_more, take-append-drop}
use Rattle.std.proofs.lemmas.List.{Sums.fold-append, FromFn.map-range_with_len_more}
use Rattle.std.specs.List.{fold, range_with_len}

-- one more item of a mapped list
pub mapped_next : {X Y : Type 0} (f : X → Y) (xs : List X) (i : ℕ) (d : X) (old new : List Y) (n : Y) → i < length xs → old ≡ map f (take i xs) → d ≡ get_or xs i d → n ≡ f d →
    new ≡ old ++ n ∷ [] → new ≡ map f (take (i + 1) xs)
mapped_next {X} {Y} f xs i d old new n below before at value is =
    is ∙ (ap (λ (ms : List Y). ms ++ n ∷ []) before
    ∙ (ap (λ m. map f (take i xs) ++ m ∷ []) value
    ∙ (ap (λ e. map f (take i xs) ++ f e ∷ []) at ∙ sym (map_more f xs i d below))))

-- one more number of a mapped range, after other items
pub range_after : {Y : Type 0} (f : ℕ → Y) (start : List Y) (n : ℕ) (old new : List Y) (y : Y) → old ≡ start ++ map f (range_with_len 0 n) → y ≡ f n → new ≡ old ++ y ∷ [] →
    new ≡ start ++ map f (range_with_len 0 (n + 1))
range_after {Y} f start n old new y before value is =
    is ∙ (ap (λ (ys : List Y). ys ++ y ∷ []) before
    ∙ (ap (λ z. (start ++ map f (range_with_len 0 n)) ++ z ∷ []) value
    ∙ (append_assoc start (map f (range_with_len 0 n)) (f n ∷ [])
    ∙ ap (λ (ys : List Y). start ++ ys) (sym (map-range_with_len_more f 0 n n (omega arith))))))

pub range_next : {Y : Type 0} (f : ℕ → Y) (n : ℕ) (old new : List Y) (y : Y) → old ≡ map f (range_with_len 0 n) → y ≡ f n → new ≡ old ++ y ∷ [] → new ≡ map f (range_with_len 0 (n + 1))
range_next f n old new y before value is = range_after f [] n old new y before value is

fold_push : {A B : Type 0} (g : B → A → B) (start : B) (xs : List A) (x : A) → fold g start (xs ++ x ∷ []) ≡ g (fold g start xs) x
fold_push g start [] x = refl
fold_push g start (y ∷ ys) x = fold_push g (g start y) ys x

-- one more item that is folded in
pub folded_next : {A B X : Type 0} (g : B → A → B) (start : B) (f : X → A) (xs : List X) (i : ℕ) (d : X) (old new : B) → i < length xs → old ≡ fold g start (map f (take i xs)) → d ≡ get_or xs i d →
    new ≡ g old (f d) → new ≡ fold g start (map f (take (i + 1) xs))
folded_next {A} {B} g start f xs i d old new below before at is =
    is ∙ (ap (λ (b : B). g b (f d)) before
    ∙ (sym (fold_push g start (map f (take i xs)) (f d))
    ∙ ap (fold g start) (ap (λ e. map f (take i xs) ++ f e ∷ []) at ∙ sym (map_more f xs i d below))))

-- a list that no step makes shorter
module _ {A Y : Type 0} (g : List Y → A → List Y) (grows : (ys : List Y) (a : A) → length ys ≤ length (g ys a)) where
  pub fold_grows : (ys : List Y) (more : List A) → length ys ≤ length (fold g ys more)
  fold_grows ys [] = omega arith
  fold_grows ys (a ∷ more) =
      let one = grows ys a in
      let rest = fold_grows (g ys a) more in
      omega (arith, one, rest)

  pub front_folded : (start : List Y) (front back : List A) → length (fold g start front) ≤ length (fold g start (front ++ back))
  front_folded start front back =
      let all = ap length (fold-append g start front back) in
      let rest = fold_grows (fold g start front) back in
      omega (arith, all, rest)

  -- if there are too many items so far, there are too many in the end
  pub folded_large : {X : Type 0} (most : ℕ) (start : List Y) (f : X → A) (xs : List X) (n : ℕ) (old : List Y) → old ≡ fold g start (map f (take n xs)) → most < length old →
      most < length (fold g start (map f xs))
  folded_large most start f xs n old is many =
      let whole : map f xs ≡ map f (take n xs) ++ map f (drop n xs) = ap (map f) (sym (take-append-drop n xs)) ∙ map-append f (take n xs) (drop n xs) in
      let sizes = ap (λ items. length (fold g start items)) whole in
      let size = ap length is in
      let front = front_folded start (map f (take n xs)) (map f (drop n xs)) in
      omega (arith, sizes, size, front, many)
