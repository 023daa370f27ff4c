-- The law of the symbols and stars at the end of a line, and of patterns made of them.
use Rattle.std.proofs.Common.{◌≡◌, ℕ, ◌≤◌, List, [], ◌∷◌, ◌++◌, length, Option, Some, None, Ok, Err, false, ◌⊎◌, inl, inr, refl, ap, subst, arith}
use Rattle.std.proofs.lemmas.{Bool.ne_eqb, Fmt.decimal_digit, List.Elements.All-nil}
use Rattle.std.specs.{Prelude.◌==◌, Prelude.◌||◌, Prelude.All, Prelude.codes, Fmt.decimal}
use Rattle.dd_certificate.specs.Text.{symbol_or_star_text, symbols_and_stars_to_end, starred_text}
use Rattle.dd_certificate.specs.Bounds.{most_number, IsWritableNumber, IsWritableSymbolOrStar, IsWritableStarred}
use Rattle.dd_output.specs.reading.Stops.{Stop, stop, is_digit, number_at, after_at, map_at, Entry, item, last}
use Rattle.dd_output.specs.reading.Forms.{word, after, forked}
use Rattle.dd_output.specs.reading.Stars.{end_byte_at, star_of, symbol_of, symbol_or_star_at, symbol_or_star_entry, symbols_and_stars}
use Rattle.dd_output.specs.reading.Grammar.{starred_of, starred}
use Rattle.dd_output.proofs.Readers.{Halts, Reads, ok_is, map_reads, same_reads, choice_reads}
use Rattle.dd_output.proofs.Tokens.{chosen_ok, chosen_err, after_reads}
use Rattle.dd_output.proofs.{Numbers.IsEnd, Numbers.is_end, Numbers.IsEnd_from, Numbers.number_reads, Signs.first_digit, Loops.Unrolls}
use Rattle.dd_output.proofs.Lines.{line_rest, LineFits, good_line, line_unrolls}
use Rattle.dd_output.proofs.Forms.{Good, good_word, good_mapped, good_after, good_forked, ForkFits, fork_text, InBounds, number_text, anything}

-- ---- the byte after a star

byte_takes : (end other : ℕ) (rest bytes : List ℕ) (e : ℕ) (left : List ℕ) → end_byte_at end other rest bytes ≡ Ok (e, left) → (bytes ≡ e ∷ left) × IsEnd end other e
byte_takes end other rest [] e left is = absurd cc
byte_takes end other rest (b ∷ bytes) e left is =
    let p = chosen_ok (b == end || b == other) (Ok (b, bytes)) (stop (b ∷ bytes) (end ∷ rest)) (e, left) is in
    subst (λ (o : ℕ × List ℕ). (b ∷ bytes ≡ o.0 ∷ o.1) × IsEnd end other o.0) (ok_is (b, bytes) (e, left) p.1) (refl, IsEnd_from end other b p.0)

byte_halts : (end other : ℕ) (rest : List ℕ) (C : List ℕ → Type 0) → C (end ∷ rest) → (bytes : List ℕ) (s : Stop) → end_byte_at end other rest bytes ≡ Err s
    → Halts C (end_byte_at end other rest) bytes s
byte_halts end other rest C done [] s e =
    let is : stop [] (end ∷ rest) ≡ s = cc in
    subst (Halts C (end_byte_at end other rest) []) is (record { front = []; whole = refl; completed = done; no_more = λ b more after i. absurd cc })
byte_halts end other rest C done (b ∷ bytes) s e = elim (chosen_err (b == end || b == other) (Ok (b, bytes)) (stop (b ∷ bytes) (end ∷ rest)) s e) [
  | inl p ↦ absurd cc
  | inr p ↦
      subst (Halts C (end_byte_at end other rest) (b ∷ bytes)) p.1 (record {
        front = [];
        whole = refl;
        completed = done;
        no_more = λ c more after i.
            let same : c ≡ b = cc in
            rw (same, p.0) refl;
      })
]

byte_reads : (end other : ℕ) (rest : List ℕ) (C : List ℕ → Type 0) → C (end ∷ rest) → Reads (IsEnd end other) (λ e. e ∷ []) C (end_byte_at end other rest)
byte_reads end other rest C done = record {
  takes = λ bytes e left is. byte_takes end other rest bytes e left is;
  again = λ e left good. rw (is_end end other e good) refl;
  stops = λ bytes s e. byte_halts end other rest C done bytes s e;
}

-- ---- a symbol or a star

abbrev SymbolOrStarIn : ℕ → ℕ → Option ℕ × ℕ → Type 0
SymbolOrStarIn end other p = IsWritableSymbolOrStar p.0 × IsEnd end other p.1

abbrev symbol_or_star_pair : Option ℕ × ℕ → List ℕ
symbol_or_star_pair p = symbol_or_star_text p.0 ++ p.1 ∷ []

abbrev IsStar : ℕ → ℕ → Option ℕ × ℕ → Type 0
IsStar end other (None, e) = IsEnd end other e
IsStar end other (Some n, e) = ⊥

abbrev IsSymbol : ℕ → ℕ → Option ℕ × ℕ → Type 0
IsSymbol end other (None, e) = ⊥
IsSymbol end other (Some n, e) = (n ≤ most_number) × IsEnd end other e

module _ (end other : ℕ) (rest : List ℕ) (end_is : is_digit end ≡ false) (other_is : is_digit other ≡ false)
    (C : List ℕ → Type 0) (completed : (x : Option ℕ) → IsWritableSymbolOrStar x → C (symbol_or_star_text x ++ end ∷ rest)) where
  star_from : (y : Option ℕ × ℕ) → IsStar end other y → (x : ℕ) × (symbol_or_star_pair y ≡ 42 ∷ x ∷ []) × IsEnd end other x × (star_of x ≡ y)
  star_from (None, e) good = (e, refl, good, refl)
  star_from (Some n, e) good = elim good [ ]

  symbol_from : (y : Option ℕ × ℕ) → IsSymbol end other y → (x : ℕ × ℕ) × (symbol_or_star_pair y ≡ number_text x) × InBounds 0 most_number end other x × (symbol_of x ≡ y)
  symbol_from (None, e) good = elim good [ ]
  symbol_from (Some n, e) good = ((n, e), refl, (omega arith, good.0, good.1), refl)

  star_first : (y : Option ℕ × ℕ) → IsStar end other y → (more : List ℕ) × (symbol_or_star_pair y ≡ 42 ∷ more)
  star_first (None, e) good = (e ∷ [], refl)
  star_first (Some n, e) good = elim good [ ]

  symbol_first : (y : Option ℕ × ℕ) → IsSymbol end other y → (b : ℕ) × (more : List ℕ) × (symbol_or_star_pair y ≡ b ∷ more) × ((b == 42) ≡ false)
  symbol_first (None, e) good = elim good [ ]
  symbol_first (Some n, e) good =
      let f = first_digit n 0 (omega (arith, good.0)) (omega arith) (omega arith) in
      (f.first, f.more ++ e ∷ [], ap (λ (l : List ℕ). l ++ e ∷ []) f.is, ne_eqb f.first 42 (λ is. omega (arith, is, f.low)))

  to_one : (y : Option ℕ × ℕ) → IsStar end other y ⊎ IsSymbol end other y → SymbolOrStarIn end other y
  to_one (None, e) (inl good) = (tt, good)
  to_one (None, e) (inr bad) = elim bad [ ]
  to_one (Some n, e) (inl bad) = elim bad [ ]
  to_one (Some n, e) (inr good) = good

  from_one : (y : Option ℕ × ℕ) → SymbolOrStarIn end other y → IsStar end other y ⊎ IsSymbol end other y
  from_one (None, e) good = inl good.1
  from_one (Some n, e) good = inr good

  pub symbol_or_star_reads : Reads (SymbolOrStarIn end other) symbol_or_star_pair C (symbol_or_star_at end other rest)
  unfolding symbol_or_star_at
  symbol_or_star_reads =
      let star = after_at (42 ∷ []) (end ∷ rest) (end_byte_at end other rest) in
      let number = number_at 0 most_number end other (λ _. rest) in
      let stars : Reads (IsEnd end other) (λ e. 42 ∷ e ∷ []) C star =
      after_reads (IsEnd end other) (λ e. e ∷ []) (λ text. C (42 ∷ text)) C (end_byte_at end other rest) (42 ∷ []) (end ∷ rest)
      (byte_reads end other rest (λ text. C (42 ∷ text)) (completed None tt)) (completed None tt) (λ text good. good) in
      same_reads (λ y. IsStar end other y ⊎ IsSymbol end other y) symbol_or_star_pair C (symbol_or_star_at end other rest) (SymbolOrStarIn end other) symbol_or_star_pair C
      (choice_reads (IsStar end other) (IsSymbol end other) symbol_or_star_pair C 42 (map_at star_of star) (map_at symbol_of number)
      (map_reads (IsEnd end other) (λ e. 42 ∷ e ∷ []) C star (IsStar end other) symbol_or_star_pair star_of stars (λ x good. (refl, good)) star_from)
      (map_reads (InBounds 0 most_number end other) number_text C number (IsSymbol end other) symbol_or_star_pair symbol_of
      (number_reads 0 most_number end other (λ _. rest) (omega arith) (omega arith) (omega arith) end_is other_is C (λ m least most. completed (Some m) most))
      (λ x good. (refl, (good.1, good.2))) symbol_from)
      star_first symbol_first)
      (λ y good. (refl, to_one y good)) (λ y good. (refl, from_one y good)) (λ text good. good)

-- ---- a line of symbols and stars

abbrev pub SymbolsAndStarsFit : List (Option ℕ) → Type 0
SymbolsAndStarsFit = LineFits IsWritableSymbolOrStar 1 None

abbrev pub symbols_and_stars_rest : List (Option ℕ) → List ℕ
symbols_and_stars_rest = line_rest symbol_or_star_text

pub symbols_and_stars_good : Good SymbolsAndStarsFit symbols_and_stars_rest symbols_and_stars
unfolding symbols_and_stars symbol_or_star_entry
symbols_and_stars_good = good_line IsWritableSymbolOrStar symbol_or_star_text (Some 0) (omega arith) (decimal_digit 0 (omega arith)) symbol_or_star_at symbol_or_star_reads 1 None (omega arith) tt

pub symbols_and_stars_unroll : Unrolls symbol_or_star_entry
unfolding symbol_or_star_entry
symbols_and_stars_unroll = line_unrolls IsWritableSymbolOrStar symbol_or_star_text (Some 0) (omega arith) (decimal_digit 0 (omega arith)) symbol_or_star_at symbol_or_star_reads 1 None (omega arith) tt

-- ---- patterns

StarredFits : ℕ × Entry (List (Option ℕ)) (Unit {0}) → Type 0
StarredFits = ForkFits {A = List (Option ℕ)} {B = Unit {0}} most_number anything SymbolsAndStarsFit

abbrev starred_fork : ℕ × Entry (List (Option ℕ)) (Unit {0}) → List ℕ
starred_fork = fork_text {A = List (Option ℕ)} {B = Unit {0}} (λ _. []) symbols_and_stars_rest

symbols_and_stars_are : (xs : List (Option ℕ)) → 1 ≤ length xs → symbols_and_stars_to_end xs ≡ 32 ∷ symbols_and_stars_rest xs
symbols_and_stars_are [] some = absurd (omega (arith, some))
symbols_and_stars_are (x ∷ xs) some = refl

starred_to : (x : ℕ × Entry (List (Option ℕ)) (Unit {0})) → StarredFits x → (starred_text (starred_of x) ≡ codes "pattern " ++ starred_fork x) × IsWritableStarred (starred_of x)
unfolding StarredFits
starred_to (n, last u) good = (refl, (good.0, All-nil IsWritableSymbolOrStar))
starred_to (n, item xs) good = (ap (λ (l : List ℕ). codes "pattern " ++ (decimal n ++ l)) (symbols_and_stars_are xs good.1.0), (good.0, good.1.2))

starred_parts : (n : ℕ) (xs : List (Option ℕ)) → IsWritableNumber n → All IsWritableSymbolOrStar xs
    → (x : ℕ × Entry (List (Option ℕ)) (Unit {0})) × (codes "pattern " ++ (decimal n ++ symbols_and_stars_to_end xs) ≡ codes "pattern " ++ starred_fork x) × StarredFits x
    × (starred_of x ≡ record { node = n; symbols = xs })
unfolding StarredFits
starred_parts n [] few all = ((n, last tt), refl, (few, tt), refl)
starred_parts n (x ∷ xs) few all = ((n, item (x ∷ xs)), refl, (few, (omega arith, tt, all)), refl)

pub starred_good : Good IsWritableStarred starred_text starred
unfolding starred StarredFits
starred_good =
    good_mapped StarredFits (λ x. codes "pattern " ++ starred_fork x) (after (codes "pattern ") (forked most_number (word []) symbols_and_stars)) IsWritableStarred starred_text starred_of
    (good_after (codes "pattern ") StarredFits starred_fork (forked most_number (word []) symbols_and_stars)
    (good_forked anything (λ _. []) (word []) SymbolsAndStarsFit symbols_and_stars_rest symbols_and_stars (good_word []) symbols_and_stars_good most_number (omega arith)))
    starred_to
    (λ p good. starred_parts p.node p.symbols good.0 good.1)
