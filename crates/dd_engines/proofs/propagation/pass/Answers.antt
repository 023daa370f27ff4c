use Rattle.std.proofs.{Common.sym, Common.◌∙◌, Common.arith, lemmas.Bool.false≢true, lemmas.List.take_all}
use Rattle.dd_engines.proofs.Passing.{passed_more, passed_settled}
use Rattle.dd_engines.proofs.propagation.pass.Goals.{in-More, in-Settled}
use Rattle.dd_engines.proofs.propagation.pass.Goals as goal

pub loop-number-preserved : goal.loop-number-preserved
loop-number-preserved c = elim c.match-branch-2.branch [
  | in-More w ↦
      let went = rw w.in-More.is at c.in_ok-conflict.ensures.looked in
      record {
        follows = went.follows;
        long = c.in_ok-conflict.ensures.long ∙ c.loop-number.invariant.long;
        so_far = record {
          settled = λ t. absurd (false≢true (sym w.is_settled-is ∙ t));
          more = λ f. passed_more _ _ _ _ _ _ _ c.loop-number.invariant.so_far went;
        };
      }
  | in-Settled w ↦
      let went = rw w.in-Settled.is at c.in_ok-conflict.ensures.looked in
      record {
        follows = rw (went.0, went.1) c.loop-number.invariant.follows;
        long = c.in_ok-conflict.ensures.long ∙ c.loop-number.invariant.long;
        so_far = rw w.is_settled-is (passed_settled _ _ _ _ _ _ (omega arith) went.1 went.2 c.loop-number.invariant.so_far);
      }
]

pub returns-then-is_settled-clause-passed : goal.returns-then-is_settled-clause-passed
returns-then-is_settled-clause-passed c =
    let settled = c.loop-number.invariant.so_far.settled c.if-is_settled.true in
    rw (take_all c.loop-number.number c.args.clauses.now c.loop-number-test.false) at settled
