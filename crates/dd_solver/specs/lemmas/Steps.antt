-- Several steps, one after the other.
use Rattle.std.proofs.Common.{◌≡◌, ℕ, ◌+◌, true, List, [], ◌∷◌, ◌++◌, Some, refl, ◌∙◌, length, arith}
use Rattle.std.proofs.lemmas.{Bool.and_parts, Bool.and_from, Bool.or_right, List.length-append}
use Rattle.dd_derivation.specs.declared.step.Step.{Step}
use Rattle.dd_derivation.specs.Derivations.{is_right, known_after, refutes_from}
use Rattle.dd_solver.specs.searching.Search.{after_step, known_through, is_derived}
use Rattle.dd_solver.specs.lemmas.Known.{Known, length-after}

pub through_more : (before : Known) (steps : List Step) (s : Step) → known_through before (steps ++ s ∷ []) ≡ after_step (known_through before steps) s
through_more before [] s = refl
through_more before (x ∷ steps) s = through_more (after_step before x) steps s

pub length-through : (before : Known) (steps : List Step) → length (known_through before steps) ≡ length before + length steps
length-through before [] = omega arith
length-through before (x ∷ steps) = length-through (after_step before x) steps ∙ omega (arith, length-after before x.deletes, length-append (known_after before x.deletes) (Some x.clause ∷ []))

-- with one more right step, all steps are still right
pub derived_more : (n : ℕ) (before : Known) (steps : List Step) (s : Step) → is_derived n before steps ≡ true → is_right n (known_through before steps) s ≡ true → is_derived n before (steps ++ s ∷ []) ≡ true
derived_more n before [] s h r = rw r refl
derived_more n before (x ∷ steps) s h r =
    let q = and_parts (is_right n before x) (is_derived n (after_step before x) steps) h in
    and_from _ _ q.0 (derived_more n (after_step before x) steps s q.1 r)

-- if steps are right, and further steps refute the clauses that are known after them, all of these steps together refute the clauses
pub refutes_after : (n : ℕ) (before : Known) (steps later : List Step) → is_derived n before steps ≡ true → refutes_from n (known_through before steps) later ≡ true → refutes_from n before (steps ++ later) ≡ true
refutes_after n before [] later d r = r
refutes_after n before (s ∷ steps) later d r =
    let q = and_parts (is_right n before s) (is_derived n (after_step before s) steps) d in
    and_from _ _ q.0 (or_right _ _ (refutes_after n (after_step before s) steps later q.1 r))
