-- What follows for a rule that was made from a formula, for a look-up whose symbols are below a bound, for an image that breaks no rule, and for a
-- composition that changes no symbol.
use Rattle.std.proofs.Common.{◌≡◌, ◌<◌, ℕ, Bool, true, false, Option, Some, None, refl, ap, sym, ◌∙◌, subst, eq-eqb, inl, inr}
use Rattle.std.proofs.lemmas.Bool.{cases_Bool, eqb-true}
use Rattle.std.specs.Prelude.{◌==◌, ◌⊎◌, is_some, IfSome}
use Rattle.dd_lattice.specs.{Place.Place, Cells.cell, declared.position.Cell.Cell}
use Rattle.dd_pattern.specs.Reading.{Look, HasSymbolsBelow}
use Rattle.dd_topology.specs.{Grid.Grid, Sets.SymbolSets}
use Rattle.dd_expansion.specs.{declared.formulas.Formula.Formula, Limits.IsFormula}
use Rattle.dd_formula.specs.{LocalRule.LocalRule, LocalRule.local_rule, Automata.value, declared.automaton.Automaton.Automaton}
use Rattle.dd_maps.specs.Pairs.{IsRuleOver}
use Rattle.dd_maps.specs.Images.{image, KeepsAt, GivesBackAt, HasSymbolAt, AtEachNode, ImageBreaks, Changes, HasSymbols}

-- a rule that was made from a well-formed formula over a topology and sets of allowed symbols is a rule over them
pub rule_over : (g : Grid) (s : SymbolSets) (f : Formula) (y : LocalRule) → IsFormula g s.symbols f → y ≡ local_rule g s f → IsRuleOver g s y
rule_over g s f y formula made = subst (IsRuleOver g s) (sym made) (record { same = refl; formula = formula })

-- where a look-up has only symbols below k, a cell with a symbol has one of the first k
pub symbol_at : (k : ℕ) (look : Look) (c : Cell) → HasSymbolsBelow k look → is_some (look c) ≡ true → HasSymbolAt k look c
symbol_at k look c below some = by (look c) some (below c)
  where
    by : (o : Option ℕ) → is_some o ≡ true → IfSome o (λ t. t < k) → (t : ℕ) × (t < k) × (o ≡ Some t)
    by None given low = absurd (cc)
    by (Some t) given low = (t, low, refl)

both_hold : (a b : Bool) → ((a ≡ false) ⊎ (b ≡ false) → ⊥) → (a ≡ true) × (b ≡ true)
both_hold true true h = (refl, refl)
both_hold true false h = absurd (h (inr refl))
both_hold false b h = absurd (h (inl refl))

-- an image that doesn't break the rule at a position obeys it at each node there
pub image_keeps : (f : Automaton) (y : LocalRule) (look : Look) (v : Place) → (ImageBreaks f y look v → ⊥) → AtEachNode y.nodes (KeepsAt f y look) v
image_keeps f y look v unbroken a below = both_hold _ _ (λ broken. unbroken (a, below, broken))

same_symbol : (x : ℕ) (o : Option ℕ) (t : ℕ) → o ≡ Some t → ((Some x ≡ o → ⊥) → ⊥) → Some x ≡ o
same_symbol x o t is h = elim (cases_Bool (x == t)) [
  | inl same ↦ ap Some (eqb-true x t same) ∙ sym is
  | inr other ↦ absurd (h (λ equal. let both : Some x ≡ Some t = equal ∙ is in let one : x ≡ t = cc in absurd (let none : true ≡ false = sym (eq-eqb x t one) ∙ other in cc)))
]

-- if each cell of a position has one of the first k symbols, and the composition changes none of these symbols, then it gives each cell its own
-- symbol
pub gives_back : (n k : ℕ) (f g : Automaton) (look : Look) (v : Place) → HasSymbols n k look v → (Changes n f g look v → ⊥) → AtEachNode n (GivesBackAt f g look) v
gives_back n k f g look v has unchanged a below =
    same_symbol (value f (image g look) (cell v a)) (look (cell v a)) (has a below).0 (has a below).2 (λ changed. unchanged (a, below, changed))
