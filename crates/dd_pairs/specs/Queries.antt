-- Which comparisons a query of a script consists of, and which pairs it asks about.
use Rattle.std.specs.Prelude.{List, [], ◌∷◌, map, Bool, true, false, Option, Some, None, option_map, unwrap_or}
use Rattle.std.specs.List.{slice_get}
use Rattle.dd_known.specs.declared.known.Setting.{Setting}
use Rattle.dd_formula.specs.{LocalRule.LocalRule, declared.automaton.Automaton.Automaton}
use Rattle.dd_query.specs.declared.queries.Query.{Query}
use Rattle.dd_pairs.specs.{declared.pair.Pair.Pair, Comparisons.ComparisonOf, Comparisons.image, Comparisons.change, Comparisons.pair_of}

-- f of two items, if both exist
abbrev pub of_both : {X Y Z : Type 0} → (X → Y → Z) → Option X → Option Y → Option Z
of_both f (Some x) y = option_map (f x) y
of_both f None y = None

-- f of three items, if all exist
abbrev pub of_three : {X Y Z W : Type 0} → (X → Y → Z → W) → Option X → Option Y → Option Z → Option W
of_three f (Some x) y z = of_both (f x) y z
of_three f None y z = None

-- f of four items, if all exist
abbrev pub of_four : {X Y Z W V : Type 0} → (X → Y → Z → W → V) → Option X → Option Y → Option Z → Option W → Option V
of_four f (Some x) y z w = of_three (f x) y z w
of_four f None y z w = None

-- the comparisons of this query: does the automaton map the configurations that obey the first rule to ones that obey the second?
abbrev pub map_comparisons : LocalRule → LocalRule → Automaton → List ComparisonOf
map_comparisons x y f = image x f y ∷ []

-- the comparisons of this query: does f map the configurations that obey x to ones that obey y, does g map those that obey y to ones that obey x, and
-- does each undo the other?
abbrev pub conjugate_comparisons : LocalRule → LocalRule → Automaton → Automaton → List ComparisonOf
conjugate_comparisons x y f g = image x f y ∷ image y g x ∷ change x g f ∷ change y f g ∷ []

-- the comparisons that a query consists of; the numbers of a query about an image or a conjugacy are indices into these rules and automata
abbrev pub comparisons_asked : List LocalRule → List Automaton → Query → List ComparisonOf
comparisons_asked rs fs (Query.Maps f x y) = unwrap_or (of_three map_comparisons (slice_get rs x) (slice_get rs y) (slice_get fs f)) []
comparisons_asked rs fs (Query.Conjugate f g x y) = unwrap_or (of_four conjugate_comparisons (slice_get rs x) (slice_get rs y) (slice_get fs f) (slice_get fs g)) []
comparisons_asked rs fs (Query.Member configuration rule) = []
comparisons_asked rs fs (Query.Contains outer inner) = []
comparisons_asked rs fs (Query.Equal left right) = []
comparisons_asked rs fs (Query.Empty rule) = []
comparisons_asked rs fs (Query.Agree left right rule) = []
comparisons_asked rs fs (Query.Forbidden rule) = []
comparisons_asked rs fs (Query.Minimal rule) = []
comparisons_asked rs fs (Query.Density rule strip) = []
comparisons_asked rs fs (Query.Least rule periods) = []
comparisons_asked rs fs (Query.Discharge rule radius margin vectors) = []

-- the pairs that the query asks about
abbrev pub pairs_of : Setting → List LocalRule → List Automaton → Query → List Pair
pairs_of s rs fs q = map (pair_of s) (comparisons_asked rs fs q)

-- whether the query asks about pairs
abbrev pub asks_pairs : Query → Bool
asks_pairs (Query.Maps f x y) = true
asks_pairs (Query.Conjugate f g x y) = true
asks_pairs (Query.Member configuration rule) = false
asks_pairs (Query.Contains outer inner) = false
asks_pairs (Query.Equal left right) = false
asks_pairs (Query.Empty rule) = false
asks_pairs (Query.Agree left right rule) = false
asks_pairs (Query.Forbidden rule) = false
asks_pairs (Query.Minimal rule) = false
asks_pairs (Query.Density rule strip) = false
asks_pairs (Query.Least rule periods) = false
asks_pairs (Query.Discharge rule radius margin vectors) = false
