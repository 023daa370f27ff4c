use Rattle.std.proofs.Common.{◌≤◌, length, take, get_or, refl, sym, subst, arith}
use Rattle.std.proofs.lemmas.List.{take_more, take_all, Elements.All-push}
use Rattle.std.specs.List.{All}
use Rattle.dd_boxes.specs.Discharges.{IsVector}
use Rattle.dd_question.proofs.parts.are_short.Goals as goal

pub loop-vector-preserved : goal.loop-vector-preserved
loop-vector-preserved c =
    let vs = c.args.vectors.now in
    let i = c.loop-vector.vector-index in
    let v = c.vector-item.result in
    subst (All (IsVector c.args.dimension)) (sym (take_more vs i v c.loop-vector-test.true))
    (All-push (IsVector c.args.dimension) (take i vs) (get_or vs i v) c.loop-vector.invariant (subst (IsVector c.args.dimension) c.vector-item.is (c.is_vector.ensures.0 c.if-not-is_vector.false)))

pub returns : goal.returns
returns c =
    let past : length c.args.vectors.now ≤ c.loop-vector.vector-index = omega (arith, c.loop-vector-test.false) in
    (λ _. subst (All (IsVector c.args.dimension)) (take_all c.loop-vector.vector-index c.args.vectors.now past) c.loop-vector.invariant, λ _. refl)
