-- The faults of a formula, from the faults of its parts.
use Rattle.std.proofs.Common.{◌≡◌, List, [], ◌∷◌, ◌++◌, sym, ap, ◌∙◌}
use Rattle.std.specs.List.{flat_map}
use Rattle.std.proofs.lemmas.List.Folds.{flat_map-map}
use Rattle.dd_faults.specs.Tree.{Word, Ball, Quantifier, Join, Formula, roll-Formula, Formula-F, fold-roll-Formula, map-Formula, Fault, Context}
use Rattle.dd_written.specs.declared.tree.Formula.TheVariants as v
use Rattle.dd_faults.specs.Formulas.{quantifier_faults, faults_step, formula_faults}

-- one step gives the faults of a formula from those of its parts
pub faults_of : (x : Context) (y : Formula-F Formula) (whole : Formula) (scope : List Word) → whole ≡ roll-Formula y → formula_faults x whole scope ≡ faults_step x (map-Formula Formula (List Word → List Fault) (formula_faults x) y) scope
faults_of x y whole scope is = ap (λ f. formula_faults x f scope) is ∙ ap (λ (h : List Word → List Fault). h scope) (fold-roll-Formula (List Word → List Fault) (faults_step x) y)

pub faults_chain : (x : Context) (j : Join) (fs : List Formula) (scope : List Word) → formula_faults x (v.Chain j fs) scope ≡ flat_map (λ f. formula_faults x f scope) fs
faults_chain x j fs scope = faults_of x (Formula-F.Chain j fs) (v.Chain j fs) scope (sym (v.rolls-Chain j fs)) ∙ flat_map-map (λ (h : List Word → List Fault). h scope) (formula_faults x) fs

pub faults_quantified : (x : Context) (q : Quantifier) (w : Word) (balls : List Ball) (f : Formula) (scope : List Word)
    → formula_faults x (v.Quantified q w balls f) scope ≡ quantifier_faults x scope w balls ++ formula_faults x f (scope ++ w ∷ [])
faults_quantified x q w balls f scope = faults_of x (Formula-F.Quantified q w balls f) (v.Quantified q w balls f) scope (sym (v.rolls-Quantified q w balls f))
