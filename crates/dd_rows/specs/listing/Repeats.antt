-- Fillings in which the views show the same symbols.
use Rattle.std.specs.Prelude.{ℕ, ◌<◌, ◌≡◌, List, [], ◌∷◌, ◌++◌, map, All}
use Rattle.dd_rows.specs.{declared.views.Views.Views, listing.Views.symbols_at, listing.Shown.patterns_shown, Programs.first_seen}
use Rattle.dd_rows.specs.listing.Sparse.{required_rows}

-- the views show the same symbols in ss and in ts
pub record ShowAlike (v : Views) (ss ts : List ℕ) : Type 0 where
  pub centre : symbols_at ss v.centre ≡ symbols_at ts v.centre
  pub origin : symbols_at ss v.origin ≡ symbols_at ts v.origin
  pub givers : map (symbols_at ss) v.givers ≡ map (symbols_at ts) v.givers

-- the views show the same symbols in the last of the lists and in ss
pub record EndsAlike (v : Views) (lists : List (List ℕ)) (ss : List ℕ) : Type 0 where
  pub front : List (List ℕ)
  pub last : List ℕ
  pub is : lists ≡ front ++ last ∷ []
  pub alike : ShowAlike v last ss

-- Both lists of fillings show the same patterns. For any list ps by which patterns are numbered, any weights and any bound of the first row, both
-- lists require the same rows.
pub record ShowsSame (v : Views) (lists shown : List (List ℕ)) : Type 0 where
  pub patterns : patterns_shown v shown ≡ patterns_shown v lists
  pub rows : (ps : List (List ℕ)) (ws : List ℕ) (most : ℕ) → first_seen (required_rows ps v ws most shown) ≡ first_seen (required_rows ps v ws most lists)

-- for each n: if all symbols of `lists` are below n, so are all symbols of `shown`, the fillings that are kept
abbrev pub HasKnown : List (List ℕ) → List (List ℕ) → Type 0
HasKnown lists shown = (n : ℕ) → All (λ ss. All (λ s. s < n) ss) lists → All (λ ss. All (λ s. s < n) ss) shown
