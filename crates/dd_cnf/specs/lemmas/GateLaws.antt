-- The clauses of gates are satisfied exactly when the gates' variables have the gates' values. The clauses of two joined lists of gates are those of
-- the first list and then those of the second.
use Rattle.std.proofs.Common.{◌≡◌, ℕ, suc, Bool, true, false, List, [], ◌∷◌, map, refl, ◌∙◌, ◌++◌, arith, sym, ◌+◌, length, append_assoc}
use Rattle.std.proofs.lemmas.List.Folds.{list_all-append}
use Rattle.std.specs.{Prelude.not, Prelude.if◌then◌else◌, Prelude.◌||◌, Prelude.◌&&◌, Prelude.◌-◌, List.list_all, List.list_any, Bool.beq}
use Rattle.dd_clause.specs.{declared.clause.Literal.Literal, Clauses.negation, Clauses.is_true_under, Clauses.is_clause_true}
use Rattle.dd_clause.specs.lemmas.LiteralLaws.{is_true_under-negation}
use Rattle.dd_circuit.specs.declared.gates.{Signal.Signal, Gate.Gate}
use Rattle.dd_circuit.specs.declared.gates.Gate.TheVariants.{And, Or, Iff}
use Rattle.dd_circuit.specs.Circuits.{signal_value, gate_value, agrees}
use Rattle.dd_cnf.specs.Encoding.{literal, literal_of, signed, and_or_clauses, iff_clauses, gate_clauses, gates_clauses}
use Rattle.dd_cnf.specs.Models.{is_satisfied}

is_true_under-signed_not : (set : ℕ → Bool) (sign : Bool) (s : Signal) → is_true_under set (signed (not sign) s) ≡ not (is_true_under set (signed sign s))
is_true_under-signed_not set true s = is_true_under-negation set (literal_of s)
is_true_under-signed_not set false s = go s.positive (set s.variable) where
  go : (p v : Bool) → (if p then v else not v) ≡ not (if not p then v else not v)
  go true true = refl
  go true false = refl
  go false v = refl

pair_clause : (gate member all : Bool) → ((not gate || (member || false)) && (not gate || all)) ≡ (not gate || (member && all))
pair_clause true true all = refl
pair_clause true false all = refl
pair_clause false member all = refl

not_and : (a b : Bool) → (not a || not b) ≡ not (a && b)
not_and true b = refl
not_and false b = refl

and_or_cases : (gate all : Bool) → ((not gate || all) && ((gate || not all) && true)) ≡ beq gate all
and_or_cases true true = refl
and_or_cases true false = refl
and_or_cases false true = refl
and_or_cases false false = refl

iff_cases : (g a b : Bool) →
    ((not g || (not a || (b || false))) && ((not g || (a || (not b || false))) && ((g || (a || (b || false))) && ((g || (not a || (not b || false))) && true))))
    ≡ beq g (beq a b)
iff_cases true true true = refl
iff_cases true true false = refl
iff_cases true false true = refl
iff_cases true false false = refl
iff_cases false true true = refl
iff_cases false true false = refl
iff_cases false false true = refl
iff_cases false false false = refl

beq-not : (a b : Bool) → beq (not a) (not b) ≡ beq a b
beq-not true true = refl
beq-not true false = refl
beq-not false true = refl
beq-not false false = refl

-- Here a signed member is the literal `signed sign l` of a member l. The clauses of `and_or_clauses` before the last one say that, if the gate's
-- literal is true, so are all signed members.
pairs_law : (set : ℕ → Bool) (gate : Literal) (sign : Bool) (members : List Signal) →
    is_satisfied set (map (λ l. negation gate ∷ signed sign l ∷ []) members) ≡ (not (is_true_under set gate) || list_all (λ l. is_true_under set (signed sign l)) members)
pairs_law set gate sign [] = go (is_true_under set gate) where
  go : (g : Bool) → true ≡ (not g || true)
  go true = refl
  go false = refl
pairs_law set gate sign (l ∷ ls) =
    rw (is_true_under-negation set gate, pairs_law set gate sign ls)
    (pair_clause (is_true_under set gate) (is_true_under set (signed sign l)) (list_all (λ m. is_true_under set (signed sign m)) ls))

-- The last clause has a true literal other than the gate's exactly when not all signed members are true.
last_law : (set : ℕ → Bool) (sign : Bool) (members : List Signal) →
    list_any (is_true_under set) (map (signed (not sign)) members) ≡ not (list_all (λ l. is_true_under set (signed sign l)) members)
last_law set sign [] = refl
last_law set sign (l ∷ ls) =
    rw (is_true_under-signed_not set sign l, last_law set sign ls) (not_and (is_true_under set (signed sign l)) (list_all (λ m. is_true_under set (signed sign m)) ls))

and_or_law : (set : ℕ → Bool) (gate : Literal) (members : List Signal) →
    is_satisfied set (and_or_clauses gate members) ≡ beq (is_true_under set gate) (list_all (λ l. is_true_under set (signed gate.positive l)) members)
and_or_law set gate members =
    list_all-append (is_clause_true set) (map (λ l. negation gate ∷ signed gate.positive l ∷ []) members) ((gate ∷ map (signed (not gate.positive)) members) ∷ [])
    ∙ rw (pairs_law set gate gate.positive members, last_law set gate.positive members)
    (and_or_cases (is_true_under set gate) (list_all (λ l. is_true_under set (signed gate.positive l)) members))

iff_law : (set : ℕ → Bool) (g a b : Literal) → is_satisfied set (iff_clauses g a b) ≡ beq (is_true_under set g) (beq (is_true_under set a) (is_true_under set b))
iff_law set g a b = rw (is_true_under-negation set g, is_true_under-negation set a, is_true_under-negation set b) (iff_cases (is_true_under set g) (is_true_under set a) (is_true_under set b))

-- all members are false exactly when none is true
all_opposing : (set : ℕ → Bool) (members : List Signal) → list_all (λ l. is_true_under set (signed false l)) members ≡ not (list_any (signal_value set) members)
all_opposing set [] = refl
all_opposing set (l ∷ ls) =
    rw (is_true_under-negation set (literal_of l), all_opposing set ls) (go (signal_value set l) (list_any (signal_value set) ls)) where
      go : (a b : Bool) → (not a && not b) ≡ not (a || b)
      go true b = refl
      go false b = refl

-- the clauses of a gate are satisfied exactly when its variable has the gate's value
pub gate_law : (set : ℕ → Bool) (g : ℕ) (gate : Gate) → is_satisfied set (gate_clauses g gate) ≡ beq (set g) (gate_value set gate)
gate_law set g (And members) = and_or_law set (literal g true) members
gate_law set g (Or members) =
    and_or_law set (literal g false) members ∙ rw (all_opposing set members) (beq-not (set g) (list_any (signal_value set) members))
gate_law set g (Iff a b) = iff_law set (literal g true) (literal_of a) (literal_of b)

-- the clauses of several gates are satisfied exactly when each gate's variable has the gate's value
pub gates_law : (set : ℕ → Bool) (n : ℕ) (gs : List Gate) → is_satisfied set (gates_clauses n gs) ≡ agrees set n gs
gates_law set n [] = refl
gates_law set n (g ∷ gs) =
    list_all-append (is_clause_true set) (gate_clauses (suc n) g) (gates_clauses (suc n) gs)
    ∙ rw (gate_law set (suc n) g, gates_law set (suc n) gs) refl

pub gates_clauses-append : (n : ℕ) (gs hs : List Gate) → gates_clauses n (gs ++ hs) ≡ gates_clauses n gs ++ gates_clauses (n + length gs) hs
gates_clauses-append n [] hs = let e : n + 0 ≡ n = omega arith in rw e refl
gates_clauses-append n (g ∷ gs) hs =
    let e : n + suc (length gs) ≡ suc n + length gs = omega arith in
    rw (e, gates_clauses-append (suc n) gs hs) (sym (append_assoc (gate_clauses (suc n) g) (gates_clauses (suc n) gs) (gates_clauses (suc n + length gs) hs)))
