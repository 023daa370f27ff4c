-- What a query asks is well formed, since the rules, automata and configurations that the query names belong to the script. It is sound, since it
-- also exceeds no limit on its work.
use Rattle.std.proofs.Common.{◌≡◌, ◌<◌, ◌%◌, List, [], get_or, ap, sym, subst, ◌∙◌, Some, None, Option, IfSome, arith}
use Rattle.std.specs.{List.All, Prelude.unwrap_or, Option.option_and_then}
use Rattle.std.proofs.lemmas.{List.Elements.All-contains}
use Rattle.dd_values.specs.declared.limits.Limits.{Limits}
use Rattle.dd_boxes.specs.{Goals.differ, Views.numbers_of}
use Rattle.dd_topology.specs.Sets.{row_allows}
use Rattle.dd_pattern.specs.Tile.{Tile}
use Rattle.dd_formula.specs.{Living.Fits, Allowed.HasAllowed}
use Rattle.dd_question.specs.{Questions.Asked, Questions.membership, Questions.box, Questions.IsFormed, Questions.excess_of, Questions.IsSoundAsked}
use Rattle.dd_formula.specs.lemmas.AllowedTiles.{allowed_from_box}
use Rattle.dd_pairs.specs.lemmas.{ComparisonLaws.comparison_fits, QueryLaws.item_at}
use Rattle.dd_script.specs.{Parts.Parts, Parts.Known, Parts.LocalRule, Parts.Automaton, Parts.Query, Questions.asked, Questions.map_question, Questions.conjugacy_question, Questions.comparisons_for, Asking.AreOf, Asking.AreSound}
use Rattle.dd_pairs.specs.{Comparisons.ComparisonOf, Comparisons.image, Comparisons.change, Comparisons.pair_of, Comparisons.IsPair, Queries.of_both, Queries.of_three, Queries.of_four, Queries.map_comparisons, Queries.conjugate_comparisons}
use Rattle.dd_script.specs.Kept.{IsQueryOf, IsScriptOf, IsAutomatonOf, IsQueryWithin, IsRuleOf, IsConfigurationOf}

-- a rule and a configuration of one script
module _ (k : Known) (x : LocalRule) (t : Tile) (rule : IsRuleOf k.setting x) (kept : IsConfigurationOf k.setting t) where
  member_fits : Fits x t
  member_fits = record {
    dimension = kept.dimension ∙ sym rule.dimension;
    nodes = kept.nodes ∙ sym rule.nodes;
    symbols = subst (λ n. All (λ symbol. symbol < n) t.symbols) (sym rule.symbols) kept.symbols;
  }

  -- cell i of a configuration is at the node i % nodes, which allows the symbol of the cell
  member_allowed : HasAllowed x t
  member_allowed = allowed_from_box x t kept.tile
      (λ i within. ap (λ rows. row_allows rows (i % t.nodes) (get_or t.symbols i 0)) rule.allowed ∙ kept.allowed i within)

module _ (s : Parts) (ok : IsScriptOf s) where
  -- a well-formed question, whose rules are as `AreOf` says
  abbrev FitsIn : Asked → Type 0
  FitsIn a = IsFormed a × AreOf s.known a

  agreement_fits : (o : Option LocalRule) (p q : Option Automaton) → IfSome o (IsRuleOf s.known.setting) → IfSome p (IsAutomatonOf s.known.setting) → IfSome q (IsAutomatonOf s.known.setting)
      → IfSome (of_three (λ x f g. box x (differ (numbers_of x) f g)) o p q) FitsIn
  agreement_fits None p q of one other = tt
  agreement_fits (Some x) None q of one other = tt
  agreement_fits (Some x) (Some f) None of one other = tt
  agreement_fits (Some x) (Some f) (Some g) of one other = grind arith

  membership_fits : (o : Option LocalRule) (p : Option Tile) → IfSome o (IsRuleOf s.known.setting) → IfSome p (IsConfigurationOf s.known.setting) → IfSome (of_both membership o p) FitsIn
  membership_fits None p of kept = tt
  membership_fits (Some x) None of kept = tt
  membership_fits (Some x) (Some t) of kept = ((of.rule, kept.tile, member_fits s.known x t of kept, member_allowed s.known x t of kept), of)

  -- the pair of each of these comparisons is well formed
  abbrev ArePaired : List ComparisonOf → Type 0
  ArePaired ps = All (λ p. IsPair s.known.setting (pair_of s.known.setting p)) ps

  map_fits : (o p : Option LocalRule) (q : Option Automaton) → IfSome o (IsRuleOf s.known.setting) → IfSome p (IsRuleOf s.known.setting) → IfSome q (IsAutomatonOf s.known.setting)
      → ArePaired (unwrap_or (of_three map_comparisons o p q) []) → IfSome (of_three (map_question s.known.setting) o p q) FitsIn
  map_fits None p q of to map pairs = tt
  map_fits (Some x) None q of to map pairs = tt
  map_fits (Some x) (Some y) None of to map pairs = tt
  map_fits (Some x) (Some y) (Some f) of to map pairs = (comparison_fits s.known.setting ok.known.setting (image x f y) (of, map, to) (pairs 0 (image x f y) (omega arith)), of)

  conjugate_fits : (o p : Option LocalRule) (q r : Option Automaton) → IfSome o (IsRuleOf s.known.setting) → IfSome p (IsRuleOf s.known.setting) → IfSome q (IsAutomatonOf s.known.setting) → IfSome r (IsAutomatonOf s.known.setting)
      → ArePaired (unwrap_or (of_four conjugate_comparisons o p q r) []) → IfSome (of_four (conjugacy_question s.known.setting) o p q r) FitsIn
  conjugate_fits None p q r of to there back pairs = tt
  conjugate_fits (Some x) None q r of to there back pairs = tt
  conjugate_fits (Some x) (Some y) None r of to there back pairs = tt
  conjugate_fits (Some x) (Some y) (Some f) None of to there back pairs = tt
  conjugate_fits (Some x) (Some y) (Some f) (Some g) of to there back pairs =
      let fits = comparison_fits s.known.setting ok.known.setting in (
        record {
          image = fits (image x f y) (of, there, to) (pairs 0 (image x f y) (omega arith));
          image_back = fits (image y g x) (to, back, of) (pairs 1 (image y g x) (omega arith));
          round = fits (change x g f) (of, back, there) (pairs 2 (change x g f) (omega arith));
          round_back = fits (change y f g) (to, there, back) (pairs 3 (change y f g) (omega arith));
        },
        (of, to),
      )

  asked_fits : (q : Query) → IsQueryWithin s.known q → ArePaired (comparisons_for s q) → IfSome (asked s q) FitsIn
  asked_fits (Query.Discharge rule radius margin vectors) within pairs = grind (arith, item_at ok.rules rule, within.3)
  asked_fits (Query.Agree left right rule) within pairs = agreement_fits _ _ _ (item_at ok.rules rule) (item_at ok.automata left) (item_at ok.automata right)
  asked_fits (Query.Member configuration rule) within pairs = membership_fits _ _ (item_at ok.rules rule) (item_at ok.configurations configuration)
  asked_fits (Query.Maps map from to) within pairs = map_fits _ _ _ (item_at ok.rules from) (item_at ok.rules to) (item_at ok.automata map) pairs
  asked_fits (Query.Conjugate there back from to) within pairs = conjugate_fits _ _ _ _ (item_at ok.rules from) (item_at ok.rules to) (item_at ok.automata there) (item_at ok.automata back) pairs
  asked_fits q within pairs = grind (arith, item_at ok.rules, item_at ok.automata, item_at ok.configurations)

  pub question_fits : (q : Query) (a : Asked) → IsQueryWithin s.known q → ArePaired (comparisons_for s q) → asked s q ≡ Some a → FitsIn a
  question_fits q a within pairs is = subst (λ (o : Option Asked). IfSome o FitsIn) is (asked_fits q within pairs)

  -- If each well-formed question that exceeds no limit on its work is sound, then each question that a query of the script asks is sound. The
  -- condition is the law that `sound_questions` of dd_question gives.
  pub questions_sound : ((l : Limits) (a : Asked) → IsFormed a → excess_of l a ≡ None → IsSoundAsked l a) → AreSound s
  questions_sound law q a there is =
      let of = All-contains (IsQueryOf s) s.queries q ok.queries there in
      let fits = question_fits q a of.within of.pairs.formed is in
      record { sound = law s.known.limits a fits.0 (sym (ap (option_and_then (excess_of s.known.limits)) is) ∙ of.within_limits); of = fits.1 }
