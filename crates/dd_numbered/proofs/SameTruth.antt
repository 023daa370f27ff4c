-- The formula made from an expansion is true of a list exactly when the expansion is true with the symbols that the list gives to cells.
use Rattle.std.proofs.Common.{◌≡◌, ℕ, Bool, false, List, [], ◌∷◌, map, refl, ap, ◌∙◌, Option, Some, None, Result, Ok, Err, IfOk}
use Rattle.std.specs.{Prelude.not, List.list_all, List.list_any}
use Rattle.dd_expansion.specs.declared.expanded.Expanded.{Expanded}
use Rattle.dd_expansion.specs.declared.expanded.Expanded.TheFolds.{fold-roll-Expanded, ind-Expanded, map-Expanded}
use Rattle.dd_expansion.specs.{declared.expanded.Expanded.TheOpen.Expanded-F, Leaves.holds, Leaves.holds_step as expanded_step}
use Rattle.dd_expansion.specs.Truth.{is_symbol}
use Rattle.dd_pattern.specs.Reading.{Look}
use Rattle.dd_numbered.specs.declared.numbered.Numbered.{Numbered, roll-Numbered}
use Rattle.dd_numbered.specs.declared.numbered.Numbered.TheFolds.{fold-roll-Numbered, map-Numbered}
use Rattle.dd_numbered.specs.{declared.numbered.Numbered.TheOpen.Numbered-F, Numbering.Numbering, Numbering.read_by, Numbering.symbol_with}
use Rattle.dd_numbered.specs.Numbered.{holds_in, holds_in_step, leaf_with, numbered, numbered_step}

abbrev SaysSame : Expanded → Type 0
SaysSame e = (number : Numbering) (ss : List ℕ) → holds_in (numbered number e) ss ≡ holds e (read_by number ss)

abbrev Same : Type 0
Same = (e : Expanded) × SaysSame e

abbrev layer : Expanded-F Same → Expanded-F Expanded
layer y = map-Expanded Same Expanded (λ e. e.0) y

-- the truth of a formula from that of its parts
opened : (x : Numbered-F Numbered) (ss : List ℕ) → holds_in (roll-Numbered x) ss ≡ holds_in_step (map-Numbered Numbered (List ℕ → Bool) holds_in x) ss
opened x ss = ap (λ h. h ss) (fold-roll-Numbered (List ℕ → Bool) holds_in_step x)

leaf_says : (s : ℕ) (ss : List ℕ) (k : Option ℕ) → holds_in (leaf_with s k) ss ≡ is_symbol s (symbol_with ss k)
leaf_says s ss None = opened (Numbered-F.Constant false) ss
leaf_says s ss (Some k) = opened (Numbered-F.Leaf k s) ss

all_same : (es : List Same) (number : Numbering) (ss : List ℕ) →
    list_all (λ h. h ss) (map holds_in (map (numbered number) (map (λ e. e.0) es))) ≡ list_all (λ h. h (read_by number ss)) (map holds (map (λ e. e.0) es))
all_same [] number ss = refl
all_same (e ∷ es) number ss = rw (e.1 number ss, all_same es number ss)

some_same : (es : List Same) (number : Numbering) (ss : List ℕ) →
    list_any (λ h. h ss) (map holds_in (map (numbered number) (map (λ e. e.0) es))) ≡ list_any (λ h. h (read_by number ss)) (map holds (map (λ e. e.0) es))
some_same [] number ss = refl
some_same (e ∷ es) number ss = rw (e.1 number ss, some_same es number ss)

step_same : (y : Expanded-F Same) (number : Numbering) (ss : List ℕ) →
    holds_in (numbered_step number (map-Expanded Expanded Numbered (numbered number) (layer y))) ss ≡ expanded_step (map-Expanded Expanded (Look → Bool) holds (layer y)) (read_by number ss)
step_same (Expanded-F.Constant b) number ss = opened (Numbered-F.Constant b) ss
step_same (Expanded-F.Leaf c s) number ss = leaf_says s ss (number c)
step_same (Expanded-F.Not e) number ss = opened (Numbered-F.Not (numbered number e.0)) ss ∙ ap not (e.1 number ss)
step_same (Expanded-F.And es) number ss = opened (Numbered-F.And (map (numbered number) (map (λ e. e.0) es))) ss ∙ all_same es number ss
step_same (Expanded-F.Or es) number ss = opened (Numbered-F.Or (map (numbered number) (map (λ e. e.0) es))) ss ∙ some_same es number ss
step_same (Expanded-F.Iff e f) number ss = opened (Numbered-F.Iff (numbered number e.0) (numbered number f.0)) ss ∙ rw (e.1 number ss, f.1 number ss)

pub says_same : (e : Expanded) → SaysSame e
says_same = ind-Expanded SaysSame (λ x y is number ss.
    rw (fold-roll-Expanded Numbered (numbered_step number) x, fold-roll-Expanded (Look → Bool) expanded_step x, ← is) (step_same y number ss))

pub says_same_if : {E : Type 0} (number : Numbering) (e : Expanded) (made : Result Numbered E) → IfOk made (λ n. n ≡ numbered number e) →
    IfOk made (λ n. (ss : List ℕ) → holds_in n ss ≡ holds e (read_by number ss))
says_same_if number e (Ok n) is = λ ss. ap (λ m. holds_in m ss) is ∙ says_same e number ss
says_same_if number e (Err fault) is = tt
