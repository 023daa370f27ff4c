-- A pass over all clauses, one clause at a time.
use Rattle.std.proofs.Common.{◌≡◌, ℕ, ◌+◌, ◌<◌, Bool, true, false, List, [], Option, inl, inr, subst, ◌∙◌, ap, length, get_or, take, arith}
use Rattle.std.proofs.lemmas.{Bool.cases_Bool, List.Elements.All-more}
use Rattle.std.specs.List.{All}
use Rattle.dd_clause.specs.declared.clause.Literal.{Literal}
use Rattle.dd_engines.specs.declared.analysis.Entry.{Entry}
use Rattle.dd_engines.specs.propagation.Following.{FollowsMore, IsSettled, unknowns}

-- If nothing has changed, each clause looked at so far is settled. Otherwise there are fewer variables without a value than before.
pub record PassedSoFar (clauses : List (List Literal)) (values now : List (Option Bool)) (count : ℕ) (is_settled : Bool) : Type 0 where
  pub settled : is_settled ≡ true → (now ≡ values) × All (IsSettled values) (take count clauses)
  pub more : is_settled ≡ false → unknowns now < unknowns values

pub passed_more : (clauses : List (List Literal)) (values now : List (Option Bool)) (count : ℕ) (is_settled : Bool) (entries : List Entry) (new : List (Option Bool)) → PassedSoFar clauses values now count is_settled → FollowsMore clauses now entries new → unknowns new < unknowns values
passed_more clauses values now count is_settled entries new so_far went = elim (cases_Bool is_settled) [
  | inl t ↦ omega (arith, went.fewer, ap unknowns (so_far.settled t).0)
  | inr f ↦ omega (arith, went.fewer, so_far.more f)
]

pub passed_settled : (clauses : List (List Literal)) (values now new : List (Option Bool)) (count : ℕ) (is_settled : Bool) → count < length clauses → new ≡ now → (count < length clauses → IsSettled now (get_or clauses count [])) → PassedSoFar clauses values now count is_settled → PassedSoFar clauses values new (count + 1) is_settled
passed_settled clauses values now new count is_settled lt same settled so_far = record {
  settled = λ t.
      let p = so_far.settled t in
      (same ∙ p.0, All-more (IsSettled values) clauses count [] lt p.1 (subst (λ (v : List (Option Bool)). IsSettled v (get_or clauses count [])) p.0 (settled lt)));
  more = λ f. omega (arith, ap unknowns same, so_far.more f);
}
