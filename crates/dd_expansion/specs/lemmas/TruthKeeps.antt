-- The truth of a formula depends only on the symbols at the cells that it reads.
use Rattle.std.proofs.Common.{◌≡◌, ℕ, Bool, true, List, [], ◌∷◌, ◌++◌, map, refl, ap, sym, ◌∙◌, Some, None}
use Rattle.std.proofs.lemmas.{Bool.and_parts, List.Folds.list_all-append}
use Rattle.std.specs.{Prelude.◌&&◌, Prelude.not, Prelude.is_some, Prelude.Option, List.list_all, List.list_any, List.flat_map}
use Rattle.std.specs.Option.{option_to_list}
use Rattle.dd_lattice.specs.{Place.Place, Cells.shifted, declared.position.Cell.Cell}
use Rattle.dd_topology.specs.declared.edge.Edge.{Edge}
use Rattle.dd_pattern.specs.Reading.{Look}
use Rattle.dd_expansion.specs.declared.formulas.Formula.{Formula}
use Rattle.dd_expansion.specs.declared.formulas.Formula.TheFolds.{fold-roll-Formula, ind-Formula, map-Formula}
use Rattle.dd_expansion.specs.lemmas.Claims.{Known, layer}
use Rattle.dd_expansion.specs.{declared.formulas.Formula.TheOpen.Formula-F, Terms.cell_of, Terms.on_cell, Terms.on_cells, Terms.balls_of}
use Rattle.dd_expansion.specs.Truth.{Truth, is_symbol, are_equal, truth, truth_step}
use Rattle.dd_expansion.specs.{Reads.Reading, Reads.both_cells, Reads.reads, Reads.reads_step, lemmas.Shifting.truth_shifted}

-- the two look-ups agree at the cells that pass a test
abbrev pub AgreeOn : (Cell → Bool) → Look → Look → Type 0
AgreeOn p look other = (c : Cell) → p c ≡ true → look c ≡ other c

module _ (p : Cell → Bool) (look other : Look) (agree : AgreeOn p look other) where
  at_cell_agree : (q : Option ℕ → Bool) (o : Option Cell) → list_all p (option_to_list o) ≡ true → on_cell (λ c. q (look c)) o ≡ on_cell (λ c. q (other c)) o
  at_cell_agree q None h = refl
  at_cell_agree q (Some c) h = ap q (agree c (and_parts (p c) true h).0)

  at_cells_agree : (q : Option ℕ → Option ℕ → Bool) (o o' : Option Cell) → list_all p (both_cells o o') ≡ true → on_cells (λ c d. q (look c) (look d)) o o' ≡ on_cells (λ c d. q (other c) (other d)) o o'
  at_cells_agree q None o' h = refl
  at_cells_agree q (Some c) None h = refl
  at_cells_agree q (Some c) (Some d) h =
      let both = and_parts (p c) (p d && true) h in rw (agree c both.0, agree d (and_parts (p d) true both.1).0)

abbrev Depends : List Edge → Formula → Type 0
Depends es f = (env : List Cell) (p : Cell → Bool) (look other : Look) → AgreeOn p look other → list_all p (reads es f env) ≡ true → truth es f env look ≡ truth es f env other

module _ (es : List Edge) (env : List Cell) (p : Cell → Bool) (look other : Look) (agree : AgreeOn p look other) where
  -- if all reads of a list of formulas pass the test, so do the reads of the first formula, and those of the others
  first_and_rest : (f : Known (Depends es)) (fs : List (Known (Depends es))) → list_all p (flat_map (λ r. r env) (map (reads es) (map (λ e. e.0) (f ∷ fs)))) ≡ true →
      (list_all p (reads es f.0 env) ≡ true) × (list_all p (flat_map (λ r. r env) (map (reads es) (map (λ e. e.0) fs))) ≡ true)
  first_and_rest f fs h =
      let rest = flat_map (λ r. r env) (map (reads es) (map (λ e. e.0) fs)) in
      and_parts (list_all p (reads es f.0 env)) (list_all p rest) (sym (list_all-append p (reads es f.0 env) rest) ∙ h)

  all_depend : (fs : List (Known (Depends es))) → list_all p (flat_map (λ r. r env) (map (reads es) (map (λ e. e.0) fs))) ≡ true →
      list_all (λ t. t env look) (map (truth es) (map (λ e. e.0) fs)) ≡ list_all (λ t. t env other) (map (truth es) (map (λ e. e.0) fs))
  all_depend [] h = refl
  all_depend (f ∷ fs) h = let both = first_and_rest f fs h in rw (f.1 env p look other agree both.0, all_depend fs both.1)

  any_depend : (fs : List (Known (Depends es))) → list_all p (flat_map (λ r. r env) (map (reads es) (map (λ e. e.0) fs))) ≡ true →
      list_any (λ t. t env look) (map (truth es) (map (λ e. e.0) fs)) ≡ list_any (λ t. t env other) (map (truth es) (map (λ e. e.0) fs))
  any_depend [] h = refl
  any_depend (f ∷ fs) h = let both = first_and_rest f fs h in rw (f.1 env p look other agree both.0, any_depend fs both.1)

  both_depend : (f f' : Known (Depends es)) → list_all p (reads es f.0 env ++ reads es f'.0 env) ≡ true → (truth es f.0 env look ≡ truth es f.0 env other) × (truth es f'.0 env look ≡ truth es f'.0 env other)
  both_depend f f' h =
      let both = and_parts (list_all p (reads es f.0 env)) (list_all p (reads es f'.0 env)) (sym (list_all-append p (reads es f.0 env) (reads es f'.0 env)) ∙ h) in
      (f.1 env p look other agree both.0, f'.1 env p look other agree both.1)

  -- if all reads of a quantifier's body at a list of cells pass the test, so do its reads at the first cell, and those at the others
  first_cell : (f : Known (Depends es)) (c : Cell) (cs : List Cell) → list_all p (flat_map (λ d. reads es f.0 (env ++ d ∷ [])) (c ∷ cs)) ≡ true →
      (list_all p (reads es f.0 (env ++ c ∷ [])) ≡ true) × (list_all p (flat_map (λ d. reads es f.0 (env ++ d ∷ [])) cs) ≡ true)
  first_cell f c cs h =
      let rest = flat_map (λ d. reads es f.0 (env ++ d ∷ [])) cs in
      and_parts (list_all p (reads es f.0 (env ++ c ∷ []))) (list_all p rest) (sym (list_all-append p (reads es f.0 (env ++ c ∷ [])) rest) ∙ h)

  for_all_depends : (f : Known (Depends es)) (cs : List Cell) → list_all p (flat_map (λ c. reads es f.0 (env ++ c ∷ [])) cs) ≡ true →
      list_all (λ c. truth es f.0 (env ++ c ∷ []) look) cs ≡ list_all (λ c. truth es f.0 (env ++ c ∷ []) other) cs
  for_all_depends f [] h = refl
  for_all_depends f (c ∷ cs) h = let both = first_cell f c cs h in rw (f.1 (env ++ c ∷ []) p look other agree both.0, for_all_depends f cs both.1)

  exists_depends : (f : Known (Depends es)) (cs : List Cell) → list_all p (flat_map (λ c. reads es f.0 (env ++ c ∷ [])) cs) ≡ true →
      list_any (λ c. truth es f.0 (env ++ c ∷ []) look) cs ≡ list_any (λ c. truth es f.0 (env ++ c ∷ []) other) cs
  exists_depends f [] h = refl
  exists_depends f (c ∷ cs) h = let both = first_cell f c cs h in rw (f.1 (env ++ c ∷ []) p look other agree both.0, exists_depends f cs both.1)

  step_depends : (y : Formula-F (Known (Depends es))) → list_all p (reads_step es (map-Formula Formula Reading (reads es) (layer (Depends es) y)) env) ≡ true →
      truth_step es (map-Formula Formula Truth (truth es) (layer (Depends es) y)) env look ≡ truth_step es (map-Formula Formula Truth (truth es) (layer (Depends es) y)) env other
  step_depends (Formula-F.Symbol t s) h = at_cell_agree p look other agree (is_symbol s) (cell_of es env t) h
  step_depends (Formula-F.NotSymbol t s) h = at_cell_agree p look other agree (λ a. not (is_symbol s a)) (cell_of es env t) h
  step_depends (Formula-F.Same t u) h = at_cells_agree p look other agree are_equal (cell_of es env t) (cell_of es env u) h
  step_depends (Formula-F.NotSame t u) h = at_cells_agree p look other agree (λ a b. not (are_equal a b)) (cell_of es env t) (cell_of es env u) h
  step_depends (Formula-F.Adjacent t u) h = refl
  step_depends (Formula-F.Place t u) h = refl
  step_depends (Formula-F.Node t a) h = refl
  step_depends (Formula-F.Not f) h = ap not (f.1 env p look other agree h)
  step_depends (Formula-F.And fs) h = all_depend fs h
  step_depends (Formula-F.Or fs) h = any_depend fs h
  step_depends (Formula-F.Implies f f') h = let both = both_depend f f' h in rw (both.0, both.1)
  step_depends (Formula-F.Iff f f') h = let both = both_depend f f' h in rw (both.0, both.1)
  step_depends (Formula-F.ForAll bs f) h = for_all_depends f (balls_of es env bs) h
  step_depends (Formula-F.Exists bs f) h = exists_depends f (balls_of es env bs) h

pub truth_depends : (es : List Edge) (f : Formula) → Depends es f
truth_depends es = ind-Formula (Depends es) (λ x y is env p look other agree.
    rw (fold-roll-Formula Truth (truth_step es) x, fold-roll-Formula Reading (reads_step es) x, ← is) (step_depends es env p look other agree y))

-- Let two look-ups, one taken relative to u and the other relative to v, agree where the first has symbols. If the first has a
-- symbol at each cell that is read, the formula has the same truth value under both.
pub truth_keeps : (es : List Edge) (f : Formula) (env : List Cell) (less more : Look) (u v : Place) →
    ((c : Cell) → is_some (less (shifted u c)) ≡ true → less (shifted u c) ≡ more (shifted v c)) →
    list_all (λ c. is_some (less (shifted u c))) (reads es f env) ≡ true → truth es f (map (shifted u) env) less ≡ truth es f (map (shifted v) env) more
truth_keeps es f env less more u v same given =
    truth_shifted es f u env less
    ∙ (truth_depends es f env (λ c. is_some (less (shifted u c))) (λ c. less (shifted u c)) (λ c. more (shifted v c)) same given
    ∙ sym (truth_shifted es f v env more))
