use Rattle.std.proofs.Common.{◌≡◌, ℕ, ◌<◌, Some, ◌∙◌, sym, ap, length}
use Rattle.std.specs.List.{All}
use Rattle.dd_derivation.specs.Derivations.{clause_of}
use Rattle.dd_trail.specs.Copies.{number_at}
use Rattle.dd_trail.specs.keeping.Copying.{HasCode}
use Rattle.dd_trail.proofs.Copying.{copied_after, places_of}
use Rattle.dd_trail.proofs.copies.copy_clause.Goals as goal

pub returns-in-Some-2-clause-copied : goal.returns-in-Some-2-clause-copied
returns-in-Some-2-clause-copied c =
    let known = c.args.database.now in
    let ns = c.args.numbers.now.items in
    let clause = c.in-Some.literals.now in
    let is : clause_of known c.in-Ok.number ≡ Some clause = ap (clause_of known) c.in-Ok.ensures.1 ∙ sym c.in-Some.ensures in
    let added : (c.in-Some-2.added.items ≡ places_of clause) × All HasCode clause = rw c.in-Some-2.is at c.in_ok-encoded.ensures in
    let places : c.as_slice.result.now ≡ places_of clause = c.as_slice.ensures.value ∙ added.0 in
    let less : (p : ℕ) → p < length ns → number_at ns p < c.in-Ok.number = rw c.deref.ensures.value at (c.is_next.ensures c.if-not-is_next.false) in
    copied_after c.append.result known ns c.args.codes.now.items c.in-Ok.number clause c.as_slice.result.now c.append.new.numbers.items c.append.new.codes.items is added.1 c.requires.as_many less places c.append.ensures.added c.append.ensures.failed
