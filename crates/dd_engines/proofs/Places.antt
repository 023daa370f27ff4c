-- The numbers of the clauses that contain a literal.
use Rattle.std.proofs.Common.{ℕ, suc, ◌+◌, ◌<◌, List, [], ◌∷◌, length, arith}
use Rattle.std.proofs.Math.ListN.{replicate}
use Rattle.std.specs.List.{All}
use Rattle.std.proofs.lemmas.List.Elements.{All-nil, All-append, All-replicate, All-weaker}
use Rattle.dd_clause.specs.declared.clause.Literal.{Literal}
use Rattle.dd_engines.specs.walking.Truths.{times_in, occurrences}

-- each of these numbers belongs to a clause of the list
pub occurrences_within : (l : Literal) (cs : List (List Literal)) (n : ℕ) → All (λ k. k < n + length cs) (occurrences l n cs)
occurrences_within l [] n = All-nil (λ k. k < n + 0)
occurrences_within l (c ∷ cs) n =
    All-append (λ k. k < n + suc (length cs)) (replicate (times_in l c) n) (occurrences l (n + 1) cs)
    (All-replicate (λ k. k < n + suc (length cs)) (times_in l c) n (omega arith))
    (All-weaker (λ k. k < (n + 1) + length cs) (λ k. k < n + suc (length cs)) (λ k h. omega (arith, h)) (occurrences l (n + 1) cs) (occurrences_within l cs (n + 1)))
