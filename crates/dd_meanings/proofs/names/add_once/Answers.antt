use Rattle.dd_faults.specs.lemmas.Repeats.{among, not_among}
use Rattle.dd_meanings.proofs.names.add_once.Goals as goal

pub returns-in-Ok : goal.returns-in-Ok
returns-in-Ok c = rw (not_among c.args.names.now c.args.text.now (rw (c.in_ok-from_str.ensures.ok) at c.in-Ok.ensures.first)) (rw (c.in_ok-from_str.ensures.ok) at c.in-Ok.ensures.added)

pub returns-in-Err-Twice : goal.returns-in-Err-Twice
returns-in-Err-Twice c =
    let refusal = rw c.in-Err-Twice.field-0-is at c.in-Err-Twice.ensures.refusal in
    rw (among c.args.names.now c.args.text.now (rw c.in_ok-from_str.ensures.ok at refusal.1)) c.in-Err-Twice.ensures.unchanged
