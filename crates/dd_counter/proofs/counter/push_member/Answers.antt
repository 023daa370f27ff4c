use Rattle.std.proofs.Common.{◌∷◌, [], suc}
use Rattle.std.specs.Prelude.{◌^◌}
use Rattle.dd_circuit.specs.{Circuits.signal_of, declared.gates.Gate.TheVariants.And}
use Rattle.dd_counter.specs.Counter.{member}
use Rattle.dd_counter.proofs.Members.{none_made, some_made, none_clauses, none_members, some_few, some_clauses, some_members}
use Rattle.dd_counter.proofs.counter.push_member.Goals as goal

pub returns-in_default-clause-clauses : goal.returns-in_default-clause-clauses
returns-in_default-clause-clauses c =
    let before = c.args.before.now in
    let n = c.args.cnf.now.variables in
    none_clauses c.args.cnf.now (member c.args.from c.args.weight c.args.most before n)
    (none_made c.args.from c.args.weight c.from-weight.result c.args.most before n c.from-weight.ensures c.if-most-weight.false c.in_default.ensures.lookup.3)

pub returns-in_default-clause-members : goal.returns-in_default-clause-members
returns-in_default-clause-members c =
    let before = c.args.before.now in
    let n = c.args.cnf.now.variables in
    none_members c.args.cnf.now (member c.args.from c.args.weight c.args.most before n) c.args.members.now.items
    (none_made c.args.from c.args.weight c.from-weight.result c.args.most before n c.from-weight.ensures c.if-most-weight.false c.in_default.ensures.lookup.3)

pub push_next-requires-clause-few : goal.push_next-requires-clause-few
push_next-requires-clause-few c =
    let before = c.args.before.now in
    let n = c.args.cnf.now.variables in
    let r = c.in-Some.earlier.now in
    some_few c.args.cnf.now (member c.args.from c.args.weight c.args.most before n) (signal_of (suc n)) (And (c.args.from ∷ r ∷ [])) (2 ^ 24)
    (some_made c.args.from c.args.weight c.from-weight.result c.args.most before n r c.from-weight.ensures c.if-most-weight.false c.in-Some.ensures.lookup.3.0 c.in-Some.ensures.lookup.1)
    c.requires.few

pub returns-clause-clauses : goal.returns-clause-clauses
returns-clause-clauses c =
    let before = c.args.before.now in
    let n = c.args.cnf.now.variables in
    let r = c.in-Some.earlier.now in
    some_clauses c.args.cnf.now (member c.args.from c.args.weight c.args.most before n) c.push_next.new.cnf (signal_of (suc n)) c.args.from r c.in_ok-from_slice.field-0
    (some_made c.args.from c.args.weight c.from-weight.result c.args.most before n r c.from-weight.ensures c.if-most-weight.false c.in-Some.ensures.lookup.3.0 c.in-Some.ensures.lookup.1)
    c.in_ok-from_slice.ensures c.in_ok-signal.ensures.ok

pub returns-clause-members : goal.returns-clause-members
returns-clause-members c =
    let before = c.args.before.now in
    let n = c.args.cnf.now.variables in
    let r = c.in-Some.earlier.now in
    some_members c.args.cnf.now (member c.args.from c.args.weight c.args.most before n) c.args.members.now.items c.push-2.new.self.items (signal_of (suc n)) c.in_ok-signal.signal
    (And (c.args.from ∷ r ∷ []) ∷ [])
    (some_made c.args.from c.args.weight c.from-weight.result c.args.most before n r c.from-weight.ensures c.if-most-weight.false c.in-Some.ensures.lookup.3.0 c.in-Some.ensures.lookup.1)
    c.in_ok-signal.ensures.signal c.in_ok-push-2.ensures.items
