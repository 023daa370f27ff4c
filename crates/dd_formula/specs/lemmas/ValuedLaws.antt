-- An automaton has one of two forms: it is given by cases, or it is a composition. A claim about all automata is proved form by form. The number of
-- clauses of an automaton's value is given for each form.
use Rattle.std.proofs.Common.{◌≡◌, ℕ, ap, sym, ◌∙◌, subst}
use Rattle.dd_formula.specs.Automata.{Counted, counted, counted_step}
use Rattle.dd_formula.specs.ValueCounts.{Valued, valued_step}
use Rattle.dd_formula.specs.declared.automaton.Automaton.{Automaton, roll-Automaton}
use Rattle.dd_formula.specs.declared.automaton.Cases.{Cases}
use Rattle.dd_formula.specs.declared.automaton.Automaton.TheFolds.{fold-Automaton, fold-roll-Automaton, ind-Automaton, map-Automaton}
use Rattle.dd_formula.specs.declared.automaton.Automaton.TheOpen.{Automaton-F}
use Rattle.dd_formula.specs.lemmas.AutomatonLaws.{counted_given, counted_composed}
use Rattle.dd_formula.specs.declared.automaton.Automaton.TheVariants as v

-- an automaton, with a proof of a claim about it
abbrev Known : (Automaton → Type 0) → Type 0
Known P = (f : Automaton) × P f

abbrev layer : (P : Automaton → Type 0) → Automaton-F (Known P) → Automaton-F Automaton
layer P y = map-Automaton (Known P) Automaton (λ f. f.0) y

step_by_forms : (P : Automaton → Type 0) → ((c : Cases) → P (v.Given c)) → ((f g : Automaton) → P f → P g → P (v.Composed f g)) → (y : Automaton-F (Known P)) → P (roll-Automaton (layer P y))
step_by_forms P given composed (Automaton-F.Given c) = subst P (sym (v.rolls-Given c)) (given c)
step_by_forms P given composed (Automaton-F.Composed f g) = subst P (sym (v.rolls-Composed f.0 g.0)) (composed f.0 g.0 f.1 g.1)

-- a claim holds of all automata if it holds of each automaton by cases, and of a composition whenever it holds of both parts
pub by_forms : (P : Automaton → Type 0) → ((c : Cases) → P (v.Given c)) → ((f g : Automaton) → P f → P g → P (v.Composed f g)) → (f : Automaton) → P f
by_forms P given composed = ind-Automaton P (λ x y is. subst (λ z. P (roll-Automaton z)) is (step_by_forms P given composed y))

abbrev pub valued : ℕ → Automaton → Valued
valued k = fold-Automaton Valued (valued_step k)

pub valued_given : (k : ℕ) (c : Cases) → valued k (v.Given c) ≡ valued_step k (Automaton-F.Given c)
valued_given k c = ap (valued k) (sym (v.rolls-Given c)) ∙ fold-roll-Automaton Valued (valued_step k) (Automaton-F.Given c)

pub valued_composed : (k : ℕ) (f g : Automaton) → valued k (v.Composed f g) ≡ valued_step k (Automaton-F.Composed (valued k f) (valued k g))
valued_composed k f g = ap (valued k) (sym (v.rolls-Composed f g)) ∙ fold-roll-Automaton Valued (valued_step k) (Automaton-F.Composed f g)

-- the counts that `valued` holds are those of `counted`
pub valued_counts : (k : ℕ) (f : Automaton) → (valued k f).counts ≡ counted f
valued_counts k =
    by_forms (λ f. (valued k f).counts ≡ counted f) (λ c. ap (λ (x : Valued). x.counts) (valued_given k c) ∙ sym (counted_given c))
    (λ f g first second.
    ap (λ (x : Valued). x.counts) (valued_composed k f g)
    ∙ (ap (λ (x : Counted). counted_step (Automaton-F.Composed x (valued k g).counts)) first
    ∙ (ap (λ (x : Counted). counted_step (Automaton-F.Composed (counted f) x)) second ∙ sym (counted_composed f g))))
