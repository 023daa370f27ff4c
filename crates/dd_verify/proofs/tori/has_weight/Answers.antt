use Rattle.std.proofs.{Common.◌≡◌, Common.true, lemmas.Result.IfOk-weaker}
use Rattle.std.specs.Prelude.{◌↔◌}
use Rattle.dd_pattern.specs.Weight.{total_weight}
use Rattle.dd_boxes.specs.{Goals.always, Witnesses.IsWitness}
use Rattle.dd_verify.specs.Tori.{HasWeight}
use Rattle.dd_verify.proofs.TorusForms.{weight_decides}
use Rattle.dd_verify.proofs.tori.has_weight.Goals as goal

pub returns-in-Some : goal.returns-in-Some
returns-in-Some c =
    let x = c.args.rule.now in
    let t = c.in-Some.periodic in
    let made = rw c.in-Some.is at c.in_ok-on_torus.ensures in
    IfOk-weaker c.weighs.result (λ b. (b ≡ true) ↔ (IsWitness x always t × (total_weight c.args.weights.now t.symbols ≡ c.args.weight)))
    (λ b. (b ≡ true) ↔ HasWeight x c.args.periods c.args.weights.now c.args.weight c.args.symbols.now)
    (λ b told. weight_decides x c.args.periods c.args.weights.now c.args.weight c.args.symbols.now t b made.0 told) c.weighs.ensures
