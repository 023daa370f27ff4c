use Rattle.std.proofs.Common.{false, length, get_or, take, arith, sym, inl, inr, leb}
use Rattle.std.proofs.lemmas.Bool.{and_left, and_right, lt-leb}
use Rattle.dd_clause.specs.declared.clause.Literal.{Literal}
use Rattle.dd_derivation.specs.lemmas.Falses.{AreUpTo-marked}
use Rattle.dd_derivation.proofs.Proper.{improper, marked_has, start_more}
use Rattle.dd_derivation.proofs.propagation.start_marks.Goals as goal

none : Literal
none = record { variable = 0; positive = false }

pub returns-then-variable-eq0-clause-value : goal.returns-then-variable-eq0-clause-value
unfolding none
returns-then-variable-eq0-clause-value c =
    sym (improper (length c.args.marks.now) c.args.clause.now c.loop-literal.literal-index none c.loop-literal-test.true (inl (and_left _ _ (lt-leb 1 (get_or c.args.clause.now c.loop-literal.literal-index none).variable (omega (arith, c.if-variable-eq0.true))))))

pub returns-then-variable-marks-clause-value : goal.returns-then-variable-marks-clause-value
unfolding none
returns-then-variable-marks-clause-value c =
    sym (improper (length c.args.marks.now) c.args.clause.now c.loop-literal.literal-index none c.loop-literal-test.true (inl (and_right (leb 1 (get_or c.args.clause.now c.loop-literal.literal-index none).variable) _ (lt-leb _ _ (omega arith)))))

pub returns-then-marks-variable-clause-value : goal.returns-then-marks-variable-clause-value
unfolding none
returns-then-marks-variable-clause-value c =
    sym (improper (length c.args.marks.now) c.args.clause.now c.loop-literal.literal-index none c.loop-literal-test.true (inr (marked_has c.loop-literal.marks c.args.step (take c.loop-literal.literal-index c.args.clause.now) _ c.loop-literal.invariant.marked (omega arith) (omega arith) c.if-marks-variable.true)))

pub loop-literal-preserved : goal.loop-literal-preserved
unfolding none
loop-literal-preserved c =
    let l = get_or c.args.clause.now c.loop-literal.literal-index none in
    let marks = c.loop-literal.marks in
    let v = c.loop-literal.invariant in
    let r = start_more marks c.args.step c.args.clause.now c.loop-literal.literal-index none c.loop-literal-test.true (omega arith, omega arith) c.if-marks-variable.false v.marked v.proper in
    record {
      proper = rw c.mark.auto.marks r.0;
      marked = rw c.mark.ensures r.1;
      older = rw c.mark.ensures (AreUpTo-marked marks c.args.step l v.older);
    }
