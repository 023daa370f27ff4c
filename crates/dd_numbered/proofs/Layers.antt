-- A conjunction is true exactly when all its parts are, and a disjunction exactly when at least one part is. The formula made from a conjunction is a
-- conjunction, and the formula made from a disjunction is a disjunction. In both cases, the parts of the formula are the formulas made from the parts
-- of the expansion.
use Rattle.std.proofs.Common.{◌≡◌, ℕ, Bool, List, map, ap, sym, ◌∙◌}
use Rattle.std.proofs.lemmas.List.Folds.{list_all-map}
use Rattle.std.specs.List.{list_all, list_any}
use Rattle.dd_expansion.specs.declared.expanded.Expanded.{Expanded, TheFolds.fold-roll-Expanded}
use Rattle.dd_expansion.specs.declared.expanded.Expanded.TheOpen.{Expanded-F}
use Rattle.dd_numbered.specs.declared.numbered.Numbered.{Numbered, TheFolds.fold-roll-Numbered}
use Rattle.dd_numbered.specs.{declared.numbered.Numbered.TheOpen.Numbered-F, Numbering.Numbering}
use Rattle.dd_numbered.specs.Numbered.{holds_in, holds_in_step, numbered, numbered_step}
use Rattle.dd_values.specs.lemmas.Lists.{list_any-map}
use Rattle.dd_expansion.specs.declared.expanded.Expanded.TheVariants as expanded
use Rattle.dd_numbered.specs.declared.numbered.Numbered.TheVariants as formula

pub holds_and : (es : List Numbered) (ss : List ℕ) → holds_in (formula.And es) ss ≡ list_all (λ e. holds_in e ss) es
holds_and es ss =
    ap (λ e. holds_in e ss) (sym (formula.rolls-And es))
    ∙ (ap (λ h. h ss) (fold-roll-Numbered (List ℕ → Bool) holds_in_step (Numbered-F.And es)) ∙ list_all-map (λ h. h ss) holds_in es)

pub holds_or : (es : List Numbered) (ss : List ℕ) → holds_in (formula.Or es) ss ≡ list_any (λ e. holds_in e ss) es
holds_or es ss =
    ap (λ e. holds_in e ss) (sym (formula.rolls-Or es))
    ∙ (ap (λ h. h ss) (fold-roll-Numbered (List ℕ → Bool) holds_in_step (Numbered-F.Or es)) ∙ list_any-map (λ h. h ss) holds_in es)

pub numbered_and : (number : Numbering) (es : List Expanded) → numbered number (expanded.And es) ≡ formula.And (map (numbered number) es)
numbered_and number es =
    ap (numbered number) (sym (expanded.rolls-And es))
    ∙ (fold-roll-Expanded Numbered (numbered_step number) (Expanded-F.And es) ∙ formula.rolls-And (map (numbered number) es))

pub numbered_or : (number : Numbering) (es : List Expanded) → numbered number (expanded.Or es) ≡ formula.Or (map (numbered number) es)
numbered_or number es =
    ap (numbered number) (sym (expanded.rolls-Or es))
    ∙ (fold-roll-Expanded Numbered (numbered_step number) (Expanded-F.Or es) ∙ formula.rolls-Or (map (numbered number) es))

pub ruleset holds_layers = (holds_and, holds_or)

pub ruleset numbered_layers = (numbered_and, numbered_or)
