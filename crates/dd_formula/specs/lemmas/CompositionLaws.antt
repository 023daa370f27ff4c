-- Compositions within the limits, and how many nodes have to be tested.
use Rattle.std.proofs.Common.{◌≡◌, ◌<◌, ◌≤◌, ℕ, zero, suc, ◌+◌, Bool, true, false, refl, ap, sym, ◌∙◌, add-one, arith}
use Rattle.std.proofs.lemmas.Bool.{and_from}
use Rattle.std.specs.{Prelude.◌&&◌, Prelude.◌||◌, Prelude.nat_le, List.list_all, List.range_with_len}
use Rattle.dd_formula.specs.LocalRule.{is_near, most_instances}
use Rattle.dd_formula.specs.Automata.{CommonNumbers, Counted, has_rules, automaton_fits, is_few, is_short, is_shallow, are_within, keeps_limits, IsAutomaton}
use Rattle.dd_formula.specs.Compositions.{StandFor, PassesDepth, composition}
use Rattle.dd_formula.specs.declared.automaton.Automaton.{Automaton}
use Rattle.dd_formula.specs.lemmas.AutomatonLaws.{fits_composed, within_composed, has_rules_composed, uniform, range_at}
use Rattle.dd_values.specs.lemmas.Booleans.{and_true, and_assoc, and_same}
use Rattle.dd_formula.specs.declared.automaton.Automaton.TheVariants as v

pub range_more : (p : ℕ → Bool) (k n : ℕ) → list_all p (range_with_len k (suc n)) ≡ (list_all p (range_with_len k n) && p (k + n))
range_more p k zero = let same : k ≡ k + 0 = omega arith in ap (λ m. p m && true) same ∙ and_true (p (k + 0))
range_more p k (suc n) =
    let same : (k + 1) + n ≡ k + suc n = omega arith in
    ap (λ b. p k && b) (range_more p (k + 1) n ∙ ap (λ m. list_all p (range_with_len (k + 1) n) && p m) same)
    ∙ and_assoc (p k) (list_all p (range_with_len (k + 1) n)) (p (k + suc n))

pub passes_more : (p : ℕ → Bool) (n : ℕ) → list_all p (range_with_len 0 n) ≡ true → p n ≡ true → list_all p (range_with_len 0 (n + 1)) ≡ true
passes_more p n h here =
    let same : 0 + n ≡ n = omega arith in
    ap (λ m. list_all p (range_with_len 0 m)) (add-one n) ∙ (range_more p 0 n ∙ and_from _ _ h (ap p same ∙ here))

-- a range fails a test if one of its numbers does
pub range_fails : (p : ℕ → Bool) (n i : ℕ) → i < n → p i ≡ false → list_all p (range_with_len 0 n) ≡ false
range_fails p n i below here = by (list_all p (range_with_len 0 n)) refl
  where
    by : (b : Bool) → list_all p (range_with_len 0 n) ≡ b → list_all p (range_with_len 0 n) ≡ false
    by true e = absurd (let passes = range_at p 0 n i e (omega arith) (omega arith) in cc)
    by false e = e

-- if a test has the same result for all numbers, a range of at least one number passes it exactly when 0 does
range_constant : (p : ℕ → Bool) → ((a : ℕ) → p a ≡ p 0) → (k n : ℕ) → list_all p (range_with_len k (suc n)) ≡ p 0
range_constant p same k zero = and_true (p k) ∙ same k
range_constant p same k (suc n) = ap (λ b. p k && b) (range_constant p same (k + 1) n) ∙ (ap (λ b. b && p 0) (same k) ∙ and_same (p 0))

range_one : (p : ℕ → Bool) → ((a : ℕ) → p a ≡ p 0) → (n : ℕ) → 1 ≤ n → list_all p (range_with_len 0 n) ≡ list_all p (range_with_len 0 1)
range_one p same zero h = absurd (omega arith)
range_one p same (suc n) h = range_constant p same 0 n ∙ sym (range_constant p same 0 0)

-- it is enough to test all nodes of the setting
pub stands_all : (s : CommonNumbers) (f : Counted) (n : ℕ) → s.nodes ≡ n → StandFor s f n
stands_all s f n is = record { below = omega arith; few = ap (λ k. is_few k f) is; short = ap (λ k. is_short k f) is }

-- if there is no rule, it is enough to test one node
pub stands_one : (s : CommonNumbers) (f g : Automaton) → has_rules f ≡ false → has_rules g ≡ false → 1 ≤ s.nodes → StandFor s (composition f g) 1
stands_one s f g none none' some =
    let same = uniform (v.Composed f g) (has_rules_composed f g ∙ (ap (λ b. b || has_rules g) none ∙ none')) in record {
      below = some;
      few = range_one (λ a. nat_le ((composition f g).instances a) most_instances) (λ a. ap (λ n. nat_le n most_instances) (same.1 a)) s.nodes some;
      short = range_one (λ a. list_all is_near ((composition f g).reads a)) (λ a. ap (list_all is_near) (same.0 a ∙ sym (same.0 0))) s.nodes some;
    }

-- a composition within the limits is well formed in each setting in which its parts are
pub composition_formed : (s : CommonNumbers) (f g : Automaton) → IsAutomaton s f → IsAutomaton s g → PassesDepth s.nodes (composition f g) → IsAutomaton s (v.Composed f g)
composition_formed s f g outer inner h = record {
  some = outer.some;
  fits = fits_composed s f g ∙ and_from (automaton_fits s f) (automaton_fits s g) outer.fits inner.fits;
  within =
      within_composed s.nodes f g
      ∙ and_from (are_within s.nodes f && are_within s.nodes g) (keeps_limits s.nodes (composition f g))
      (and_from (are_within s.nodes f) (are_within s.nodes g) outer.within inner.within)
      (and_from (is_few s.nodes (composition f g) && is_short s.nodes (composition f g)) (is_shallow (composition f g))
      (and_from (is_few s.nodes (composition f g)) (is_short s.nodes (composition f g)) h.0.0 h.0.1) h.1);
}
