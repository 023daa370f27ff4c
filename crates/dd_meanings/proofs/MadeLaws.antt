-- The rules of an automaton's cases are made over the script's topology and the symbols that its nodes allow. So are the rules in a composition, if
-- the rules in both its parts are.
use Rattle.std.proofs.Common.{◌≡◌, ℕ, List, ◌++◌, map, refl, ap, sym, ◌∙◌}
use Rattle.std.proofs.lemmas.List.Elements.{All-map, All-append}
use Rattle.std.specs.List.{All}
use Rattle.dd_expansion.specs.declared.formulas.Formula.{Formula as Meant}
use Rattle.dd_formula.specs.{LocalRule.LocalRule, ByCases.by_cases, ByCases.case_over, ByCases.IsCaseOver}
use Rattle.dd_formula.specs.declared.automaton.{Automaton.Automaton, Cases.Cases}
use Rattle.dd_formula.specs.declared.automaton.Automaton.{TheFolds.fold-roll-Automaton, TheOpen.Automaton-F}
use Rattle.dd_meanings.specs.{Tree.Setting, Made.rules_step, Made.rules_in, Made.IsMadeOver}
use Rattle.dd_formula.specs.declared.automaton.Automaton.TheVariants as automaton

rules_given : (c : Cases) → rules_in (automaton.Given c) ≡ map (λ case. case.0) c.cases
rules_given c = ap rules_in (sym (automaton.rolls-Given c)) ∙ fold-roll-Automaton (List LocalRule) rules_step (Automaton-F.Given c)

rules_composed : (f g : Automaton) → rules_in (automaton.Composed f g) ≡ rules_in f ++ rules_in g
rules_composed f g = ap rules_in (sym (automaton.rolls-Composed f g)) ∙ fold-roll-Automaton (List LocalRule) rules_step (Automaton-F.Composed f g)

module _ (s : Setting) where
  pub cases_made : (cases : List (Meant × ℕ)) (otherwise : ℕ) → All (IsCaseOver s.topology s.sets) cases → All (IsMadeOver s) (rules_in (by_cases s.topology s.sets cases otherwise))
  cases_made cases otherwise are =
      let over = case_over s.topology s.sets in
      rw (rules_given (record { cases = map over cases; otherwise = otherwise }))
      (All-map (IsMadeOver s) (λ case. case.0) (map over cases) (All-map (λ case. IsMadeOver s case.0) over cases (λ i d below. record { same = refl; formula = (are i d below).formula })))

  pub composition_made : (f g : Automaton) → All (IsMadeOver s) (rules_in f) → All (IsMadeOver s) (rules_in g) → All (IsMadeOver s) (rules_in (automaton.Composed f g))
  composition_made f g outer inner = rw (rules_composed f g) (All-append (IsMadeOver s) (rules_in f) (rules_in g) outer inner)
