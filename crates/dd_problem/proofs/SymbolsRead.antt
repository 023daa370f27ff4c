-- Symbols read from an assignment.
use Rattle.std.proofs.Common.{◌≡◌, ℕ, suc, ◌+◌, ◌*◌, ◌-◌, ◌<◌, Bool, true, false, List, length, get_or, ap, sym, subst, ◌∙◌, arith}
use Rattle.std.proofs.lemmas.{List.ext_get_or, Option.slice_get-get_or}
use Rattle.std.specs.Prelude.{◌==◌, slice_index_or, Option, Some, None, Result, Ok, Err, MatchResult, is_ok}
use Rattle.std.specs.{Result.result_ok, List.All}
use Rattle.dd_values.specs.Variables.{true_variables}
use Rattle.dd_pattern.specs.{declared.periods.Periods.Periods, Periods.periods_volume, Tile.Tile, Tile.IsPeriodic, Tile.tile}
use Rattle.dd_expansion.specs.Truth.{is_symbol}
use Rattle.dd_formula.specs.{LocalRule.LocalRule, LocalRule.IsRule, Living.Fits}
use Rattle.dd_boxes.specs.{Witnesses.HasPeriods, TorusPeriods.AreTorusPeriods}
use Rattle.dd_problem.specs.{lemmas.Filtered.some_same, lemmas.TorusLayout.torus_of, lemmas.TorusLayout.torus_is_periodic, Clauses.input}
use Rattle.dd_problem.specs.Symbols.{IsSymbolRead, HasOneEach, AreRead, AreAllRead}
use Rattle.dd_problem.proofs.TorusCalls.{tile_ok}

equal_from : (a b : ℕ) → (a == b) ≡ true → a ≡ b
equal_from a b h = grind arith

equal_itself : (a : ℕ) → (a == a) ≡ true
equal_itself a = grind arith

-- the value of the input of a symbol, by its index in the list of values
pub input_value : (values : List Bool) (m k t at : ℕ) → at ≡ k * m + t → true_variables values (input m k t) ≡ slice_index_or values at false
input_value values m k t at is = let e : suc (k * m + t) - 1 ≡ at = omega arith in ap (λ j. slice_index_or values j false) e

-- a true input of a cell is that of the cell's symbol
pub here_read : (set : ℕ → Bool) (m k t : ℕ) → (s : ℕ) × IsSymbolRead set m k s → t < m → set (input m k t) ≡ true → IsSymbolRead set m k t
here_read set m k t one below h =
    let same : one.0 ≡ t = equal_from one.0 t (sym (one.1.1 t below) ∙ h) in
    subst (IsSymbolRead set m k) same one.1

-- some input is true
pub none_read : (set : ℕ → Bool) (m k : ℕ) → (s : ℕ) × IsSymbolRead set m k s → ((t : ℕ) → t < m → set (input m k t) ≡ false) → ⊥
none_read set m k one none =
    let s = one.0 in
    let yes : set (input m k s) ≡ true = one.1.1 s one.1.0 ∙ equal_itself s in
    let no = none s one.1.0 in
    cc

pub one_each_there : (values found : List Bool) (m symbols n count : ℕ) → values ≡ found → m ≡ symbols → n ≡ count → HasOneEach (true_variables found) symbols count →
    HasOneEach (true_variables values) m n
one_each_there values found m symbols n count same_values same_symbols same_count h =
    subst (λ v. HasOneEach (true_variables v) m n) (sym same_values)
    (subst (λ k. HasOneEach (true_variables found) k n) (sym same_symbols) (subst (HasOneEach (true_variables found) symbols) (sym same_count) h))

pub read_by_numbers : (set : ℕ → Bool) (m n : ℕ) (symbols : List ℕ) → AreAllRead set m n symbols → AreRead set m symbols
read_by_numbers set m n symbols all k s h below =
    (all.1 k 0 (omega (arith, all.0))).1 s below ∙ sym (ap (is_symbol s) (slice_get-get_or symbols k 0 h))

-- two lists read from one assignment have the same symbols
same_symbol : (set : ℕ → Bool) (m : ℕ) (symbols others : List ℕ) → AreRead set m symbols → AreRead set m others → All (λ s. s < m) others → length others ≡ length symbols →
    (k : ℕ) → k < length others → get_or others k 0 ≡ get_or symbols k 0
same_symbol set m symbols others read other below same k h =
    let s = get_or others k 0 in
    let small : s < m = below k 0 h in
    let yes : set (input m k s) ≡ true = other k s h small ∙ (ap (is_symbol s) (slice_get-get_or others k 0 h) ∙ equal_itself s) in
    let within : k < length symbols = omega (arith, h, same) in
    let also : set (input m k s) ≡ (get_or symbols k 0 == s) = read k s within small ∙ ap (is_symbol s) (slice_get-get_or symbols k 0 within) in
    sym (equal_from (get_or symbols k 0) s (sym also ∙ yes))

same_tile : (t u : Tile) → t.dimension ≡ u.dimension → t.periods ≡ u.periods → t.nodes ≡ u.nodes → t.symbols ≡ u.symbols → t ≡ u
same_tile t u d p n s = λ i. record { dimension = d i; periods = p i; nodes = n i; symbols = s i }

-- if a configuration is made, it is the one that was asked for
pub made_is : {B : Type 0} (r : Result Tile B) (o : Option Tile) (t u : Tile) (S : B → Type 0) → MatchResult r (λ p. (p ≡ u) × IsPeriodic u) (λ back. S back × (IsPeriodic u → ⊥)) →
    o ≡ result_ok r → o ≡ Some t → t ≡ u
made_is (Ok a) o t u S h ok is = some_same t a (sym is ∙ ok) ∙ h.0
made_is (Err e) o t u S h ok is = absurd (let no : Some t ≡ None = sym is ∙ ok in cc)

module _ (x : LocalRule) (periods : Periods) (rule : IsRule x) (ok : AreTorusPeriods x.dimension x.nodes periods) where
  read_is : (d nodes : ℕ) (items : List ℕ) → d ≡ x.dimension → nodes ≡ x.nodes → tile d periods nodes items ≡ torus_of x periods items
  read_is d nodes items dim same = ap (λ k. tile k periods nodes items) dim ∙ ap (λ k. tile x.dimension periods k items) same

  pub read_made : {B : Type 0} (r : Result Tile B) (S : B → Type 0) (d nodes : ℕ) (items : List ℕ) → d ≡ x.dimension → nodes ≡ x.nodes →
      length items ≡ periods_volume periods * nodes →
      MatchResult r (λ p. (p ≡ tile d periods nodes items) × IsPeriodic (tile d periods nodes items)) (λ back. S back × (IsPeriodic (tile d periods nodes items) → ⊥)) → is_ok r ≡ true
  read_made r S d nodes items dim same full h =
      tile_ok x periods rule ok r (tile d periods nodes items) S h
      (subst IsPeriodic (sym (read_is d nodes items dim same))
      (torus_is_periodic x periods items rule ok (full ∙ ap (λ k. periods_volume periods * k) same)))

  pub read_only : (set : ℕ → Bool) (d nodes : ℕ) (items : List ℕ) (t u : Tile) → d ≡ x.dimension → nodes ≡ x.nodes → t ≡ tile d periods nodes items → AreRead set x.symbols items →
      HasPeriods periods u → Fits x u → AreRead set x.symbols u.symbols → length u.symbols ≡ length t.symbols → u ≡ t
  read_only set d nodes items t u dim same is read p fit other full =
      let whole : t ≡ torus_of x periods items = is ∙ read_is d nodes items dim same in
      let count : length u.symbols ≡ length items = full ∙ ap (λ (v : Tile). length v.symbols) whole in
      let symbols = ext_get_or 0 u.symbols items count (same_symbol set x.symbols items u.symbols read other fit.symbols count) in
      same_tile u (torus_of x periods items) fit.dimension p fit.nodes symbols ∙ sym whole

pub read_there : (values found : List Bool) (m symbols n : ℕ) (items : List ℕ) → values ≡ found → m ≡ symbols → AreAllRead (true_variables values) m n items →
    AreRead (true_variables found) symbols items
read_there values found m symbols n items same_values same_symbols all =
    subst (λ k. AreRead (true_variables found) k items) same_symbols
    (subst (λ v. AreRead (true_variables v) m items) same_values (read_by_numbers (true_variables values) m n items all))
