use Rattle.std.proofs.Common.{◌≡◌, true, is_some, ap, sym}
use Rattle.dd_derivation.specs.Derivations.{clause_of}
use Rattle.dd_solver.proofs.Taken.{Taken, taken_past, taken_more}
use Rattle.dd_solver.proofs.deletion.take_chosen.Goals as goal
use Rattle.dd_solver.proofs.deletion.take_chosen.Goals.{then-number-clauses+then-chosen-number+in-Some+in_ok-push, then-number-clauses+then-chosen-number+in_default, else-number-clauses}

pub loop-number-preserved : goal.loop-number-preserved
loop-number-preserved c =
    let known = c.args.database.now in
    let first = c.args.clauses in
    let place = c.loop-number.number in
    let chosen = c.args.chosen.now in
    let deletes = c.loop-number.deletes.items in
    let v = c.loop-number.invariant in
    let t : Taken known first place chosen deletes = record { deletable = v.deletable; first_stay = v.first; later = v.later; spared = v.spared } in
    let p = taken_past known first place chosen deletes t in
    elim c.if-number-clauses.branch [
      | then-number-clauses+then-chosen-number+in-Some+in_ok-push w ↦ (let s : is_some (clause_of known place) ≡ true = ap (λ o. is_some o) (sym w.in-Some.ensures) in
          let m = taken_more known first place chosen deletes w.if-number-clauses.true w.if-chosen-number.true s t in
          rw (w.deletes-is, w.in_ok-push.ensures.items) (record { deletable = m.deletable; first = m.first_stay; later = m.later; spared = m.spared }))
      | then-number-clauses+then-chosen-number+in_default w ↦ rw w.deletes-is (record { deletable = p.deletable; first = p.first_stay; later = p.later; spared = p.spared })
      | else-number-clauses w ↦ rw w.deletes-is (record { deletable = p.deletable; first = p.first_stay; later = p.later; spared = p.spared })
    ]
