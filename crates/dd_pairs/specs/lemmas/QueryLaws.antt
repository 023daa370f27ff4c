-- The comparisons of a script's queries are about rules and automata of the script.
use Rattle.std.proofs.Common.{◌≡◌, ℕ, List, [], ◌∷◌, map, false, Option, Some, None, IfSome, refl, arith}
use Rattle.std.proofs.lemmas.{Grind.common_steps, Option.gets, List.Elements.All-nil, List.Elements.All-cons}
use Rattle.std.specs.{List.All, List.slice_get, Prelude.unwrap_or}
use Rattle.dd_known.specs.declared.known.{Setting.Setting, Known.Known}
use Rattle.dd_formula.specs.{LocalRule.LocalRule, declared.automaton.Automaton.Automaton}
use Rattle.dd_meanings.specs.Made.{AreNamed, IsRuleOf, IsAutomatonOf}
use Rattle.dd_query.specs.declared.queries.Query.{Query}
use Rattle.dd_pairs.specs.Comparisons.{image, change, IsComparisonOf}
use Rattle.dd_pairs.specs.Queries.{of_three, of_four, map_comparisons, conjugate_comparisons, comparisons_asked, asks_pairs}

-- what holds of each named item holds of the item with the index n, if there is one
pub item_at : {X : Type 0} {P : X → Type 0} {names : List (List ℕ)} {xs : List X} → AreNamed P names xs → (n : ℕ) → IfSome (slice_get xs n) P
item_at are n = grind (arith, common_steps, gets, are.each n)

module _ (s : Setting) where
  map_is : (o p : Option LocalRule) (q : Option Automaton) → IfSome o (IsRuleOf s) → IfSome p (IsRuleOf s) → IfSome q (IsAutomatonOf s) → All (IsComparisonOf s) (unwrap_or (of_three map_comparisons o p q) [])
  map_is None p q of to map = All-nil (IsComparisonOf s)
  map_is (Some x) None q of to map = All-nil (IsComparisonOf s)
  map_is (Some x) (Some y) None of to map = All-nil (IsComparisonOf s)
  map_is (Some x) (Some y) (Some f) of to map = All-cons (IsComparisonOf s) (image x f y) [] (of, map, to) (All-nil (IsComparisonOf s))

  conjugate_is : (o p : Option LocalRule) (q r : Option Automaton) → IfSome o (IsRuleOf s) → IfSome p (IsRuleOf s) → IfSome q (IsAutomatonOf s) → IfSome r (IsAutomatonOf s)
      → All (IsComparisonOf s) (unwrap_or (of_four conjugate_comparisons o p q r) [])
  conjugate_is None p q r of to there back = All-nil (IsComparisonOf s)
  conjugate_is (Some x) None q r of to there back = All-nil (IsComparisonOf s)
  conjugate_is (Some x) (Some y) None r of to there back = All-nil (IsComparisonOf s)
  conjugate_is (Some x) (Some y) (Some f) None of to there back = All-nil (IsComparisonOf s)
  conjugate_is (Some x) (Some y) (Some f) (Some g) of to there back =
      All-cons (IsComparisonOf s) (image x f y) (image y g x ∷ change x g f ∷ change y f g ∷ []) (of, there, to)
      (All-cons (IsComparisonOf s) (image y g x) (change x g f ∷ change y f g ∷ []) (to, back, of)
      (All-cons (IsComparisonOf s) (change x g f) (change y f g ∷ []) (of, back, there)
      (All-cons (IsComparisonOf s) (change y f g) [] (to, there, back) (All-nil (IsComparisonOf s)))))

pub comparisons_are : (k : Known) (rs : List LocalRule) (fs : List Automaton) → AreNamed (IsRuleOf k.setting) k.rules rs → AreNamed (IsAutomatonOf k.setting) k.automata fs → (q : Query) → All (IsComparisonOf k.setting) (comparisons_asked rs fs q)
comparisons_are k rs fs rules automata (Query.Maps f x y) = map_is k.setting _ _ _ (item_at rules x) (item_at rules y) (item_at automata f)
comparisons_are k rs fs rules automata (Query.Conjugate f g x y) = conjugate_is k.setting _ _ _ _ (item_at rules x) (item_at rules y) (item_at automata f) (item_at automata g)
comparisons_are k rs fs rules automata q = All-nil (IsComparisonOf k.setting)

-- a query that asks about no pairs consists of no comparisons
pub no_comparisons : (rs : List LocalRule) (fs : List Automaton) (q : Query) → asks_pairs q ≡ false → comparisons_asked rs fs q ≡ []
no_comparisons rs fs (Query.Maps f x y) none = absurd cc
no_comparisons rs fs (Query.Conjugate f g x y) none = absurd cc
no_comparisons rs fs q none = refl
