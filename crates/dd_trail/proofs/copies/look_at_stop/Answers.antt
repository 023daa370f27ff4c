use Rattle.std.proofs.Common.{◌≡◌, ◌+◌, ◌∙◌, true, inl, inr, refl, sym, subst}
use Rattle.std.specs.Option.{is_some}
use Rattle.dd_derivation.specs.Derivations.{clause_of}
use Rattle.dd_trail.specs.Trails.{falses}
use Rattle.dd_trail.specs.Copies.{Copy, code_at}
use Rattle.dd_trail.specs.keeping.Copying.{AreOnly}
use Rattle.dd_trail.proofs.Copying.{stop_falsified, stop_forces, denied_false, forced_says}
use Rattle.dd_trail.proofs.copies.look_at_stop.Goals as goal

pub returns-in-true-true : goal.returns-in-true-true
returns-in-true-true c =
    let copy : Copy = record { numbers = c.args.numbers.now; codes = c.args.codes.now } in
    let xs = falses c.args.trail.now.entries in
    let first = c.args.stop.first in
    let denied = c.denied-denied.result.now in
    let there : is_some (clause_of c.args.database.now c.from-number.result) ≡ true = sym c.has_clause.ensures ∙ c.if-not-has_clause.false in
    let only : AreOnly copy.numbers first c.args.stop.end c.from-number.result = subst (AreOnly copy.numbers first c.args.stop.end) (sym c.from-number.ensures) c.in-Some.ensures in
    stop_falsified c.args.database.now copy xs first c.args.stop.end c.from-number.result c.requires.copied there c.requires.stop c.requires.ordered.as_many only
    (denied_false denied xs (code_at copy.codes first) c.denied-denied.ensures c.in-true-true.ensures)
    (denied_false denied xs (code_at copy.codes (first + 1)) c.denied-denied.ensures c.in-true-true.ensures')

pub returns-in-false-true : goal.returns-in-false-true
returns-in-false-true c =
    let copy : Copy = record { numbers = c.args.numbers.now; codes = c.args.codes.now } in
    let xs = falses c.args.trail.now.entries in
    let first = c.args.stop.first in
    let denied = c.denied-denied.result.now in
    let there : is_some (clause_of c.args.database.now c.from-number.result) ≡ true = sym c.has_clause.ensures ∙ c.if-not-has_clause.false in
    let only : AreOnly copy.numbers first c.args.stop.end c.from-number.result = subst (AreOnly copy.numbers first c.args.stop.end) (sym c.from-number.ensures) c.in-Some.ensures in
    forced_says c.args.database.now c.args.trail.now.variables c.args.trail.now.entries c.from-number.result (code_at copy.codes first) c.forced-in-false-true.result c.forced-in-false-true.ensures
    (λ l e free least. stop_forces c.args.database.now copy xs first c.args.stop.end c.from-number.result c.requires.copied there c.requires.stop c.requires.ordered.as_many only first (first + 1) l (inl (refl, refl)) e free least
    (denied_false denied xs (code_at copy.codes (first + 1)) c.denied-denied.ensures c.in-false-true.ensures'))

pub returns-in-true-false : goal.returns-in-true-false
returns-in-true-false c =
    let copy : Copy = record { numbers = c.args.numbers.now; codes = c.args.codes.now } in
    let xs = falses c.args.trail.now.entries in
    let first = c.args.stop.first in
    let denied = c.denied-denied.result.now in
    let there : is_some (clause_of c.args.database.now c.from-number.result) ≡ true = sym c.has_clause.ensures ∙ c.if-not-has_clause.false in
    let only : AreOnly copy.numbers first c.args.stop.end c.from-number.result = subst (AreOnly copy.numbers first c.args.stop.end) (sym c.from-number.ensures) c.in-Some.ensures in
    forced_says c.args.database.now c.args.trail.now.variables c.args.trail.now.entries c.from-number.result (code_at copy.codes (first + 1)) c.forced.result c.forced.ensures
    (λ l e free least. stop_forces c.args.database.now copy xs first c.args.stop.end c.from-number.result c.requires.copied there c.requires.stop c.requires.ordered.as_many only (first + 1) first l (inr (refl, refl)) e free least
    (denied_false denied xs (code_at copy.codes first) c.denied-denied.ensures c.in-true-false.ensures))
