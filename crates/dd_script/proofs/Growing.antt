-- What holds of every script still holds when definitions and queries are added.
use Rattle.std.proofs.Common.{◌≡◌, ℕ, ◌<◌, ◌≤◌, List, [], ◌∷◌, ◌++◌, length, sym, ap, subst, ◌∙◌, arith}
use Rattle.std.specs.{List.All, List.slice_get, Option.option_and_then}
use Rattle.std.proofs.lemmas.{Grind.common_steps, List.Elements.All-push, List.Elements.All-weaker, Option.gets}
use Rattle.dd_question.specs.Questions.{excess_of}
use Rattle.dd_pairs.specs.Made.{HavePairs}
use Rattle.dd_script.specs.Parts.{Parts, LocalRule, Automaton, Tile, Query}
use Rattle.dd_script.specs.Questions.{asked, comparisons_for}
use Rattle.dd_script.specs.Kept.{IsQueryOf, AreNamed, IsScriptOf, IsAutomatonOf, IsQueryWithin, IsRuleOf, IsConfigurationOf}

-- a list of items with these names, and P holds of each item; the list begins with the old items, and may have more
pub record Grown {X : Type 0} (P : X → Type 0) (old : List X) (names : List (List ℕ)) (xs : List X) : Type 0 where
  pub are : AreNamed P names xs
  pub more : length old ≤ length xs
  pub same : (i : ℕ) → i < length old → slice_get xs i ≡ slice_get old i

pub stay : {X : Type 0} {P : X → Type 0} {names : List (List ℕ)} {xs : List X} → AreNamed P names xs → Grown P xs names xs
stay are = grind arith

pub one_more : {X : Type 0} {P : X → Type 0} {names : List (List ℕ)} {xs : List X} (name : List ℕ) (x : X) → AreNamed P names xs → P x → Grown P xs (names ++ name ∷ []) (xs ++ x ∷ [])
one_more {P = P} {xs = xs} name x are is = grind (arith, common_steps, gets, All-push P xs x are.each is)

module _ (s : Parts) (is : IsScriptOf s) {R A C : List (List ℕ)} {rs : List LocalRule} {fs : List Automaton} {ts : List Tile} (rules : Grown (IsRuleOf s.known.setting) s.rules R rs)
    (automata : Grown (IsAutomatonOf s.known.setting) s.automata A fs) (configurations : Grown (IsConfigurationOf s.known.setting) s.configurations C ts) (qs : List Query) where
  abbrev pub grown : Parts
  grown = record { known = record (s.known) { rules = R; automata = A; configurations = C }; rules = rs; automata = fs; configurations = ts; queries = qs }

  -- what a query names still exists, its numbers and vectors are still within their bounds, and it asks the same question and consists of the same
  -- comparisons as before
  same_query : (q : Query) → IsQueryWithin s.known q → IsQueryWithin grown.known q × (asked grown q ≡ asked s q) × (comparisons_for grown q ≡ comparisons_for s q)
  same_query q has = grind arith

  query_kept : (q : Query) → IsQueryOf s q → IsQueryOf grown q
  query_kept q of =
      let same = same_query q of.within in
      let kept : HavePairs s.known (comparisons_for grown q) = subst (HavePairs s.known) (sym same.2) of.pairs in
      record {
        within = same.0;
        pairs = record { formed = kept.formed; faultless = kept.faultless };
        within_limits = ap (option_and_then (excess_of s.known.limits)) same.1 ∙ of.within_limits;
      }

  -- what holds of a script still holds with these definitions and the queries qs, if each of these queries could already be asked with the old
  -- definitions
  pub more : All (IsQueryOf s) qs → IsScriptOf grown
  more old = record {
    known = grind arith;
    rules = rules.are;
    automata = automata.are;
    configurations = configurations.are;
    queries = All-weaker (IsQueryOf s) (IsQueryOf grown) query_kept qs old;
  }
