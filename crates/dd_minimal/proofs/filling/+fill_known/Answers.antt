use Rattle.std.proofs.Common.{◌≡◌, ◌++◌, List, cond, map, length, ap, sym, ◌∙◌, arith}
use Rattle.std.specs.List.{flat_map, range_with_len}
use Rattle.dd_formula.specs.LocalRule.{rule_allows}
use Rattle.dd_minimal.specs.{declared.outcome.Outcome.Outcome, declared.outcome.Outcome.TheVariants.Barred, Minimal.words}
use Rattle.dd_minimal.specs.finding.Outcomes.{known_outcome}
use Rattle.dd_minimal.proofs.FillSteps.{one_more, all_parts, part, part_known}
use Rattle.dd_minimal.proofs.filling.+fill_known.Goals.{then-allows, else-allows}
use Rattle.dd_minimal.proofs.filling.+fill_known.Goals as goal

pub loop-symbol-preserved : goal.loop-symbol-preserved
loop-symbol-preserved t c =
    let r = c.args.rule.now in
    let later = c.in-Some.later.now in
    let symbol = c.loop-symbol.symbol in
    let n = length later in
    let made : Outcome → List Outcome = λ o. map (known_outcome r later o) (words r.symbols n) in
    let chosen : cond (rule_allows r c.in-Some.cell.now.node symbol) c.args.outcome Barred ≡ c.if-allows.outcome =
    elim c.if-allows.branch [
      | then-allows w ↦ ap (λ b. cond b c.args.outcome Barred) (sym c.allows.ensures.value ∙ w.if-allows.true) ∙ sym w.outcome-is
      | else-allows w ↦ ap (λ b. cond b c.args.outcome Barred) (sym c.allows.ensures.value ∙ w.if-allows.false) ∙ sym w.outcome-is
    ] in
    one_more (part (known_outcome r c.args.rest.now c.args.outcome) r.symbols n) c.args.table.now c.loop-symbol.table c.fill_known.new.table (made c.if-allows.outcome) symbol
    c.loop-symbol.invariant c.in_ok-fill_known.ensures
    (part_known r c.in-Some.cell.now later c.args.rest.now c.args.outcome r.symbols n symbol c.in-Some.ensures.cases.0 ∙ ap made chosen)

pub returns : goal.returns
returns t c =
    let r = c.args.rule.now in
    let f = known_outcome r c.args.rest.now c.args.outcome in
    let n = length c.in-Some.later.now in
    let end : c.loop-symbol.symbol ≡ r.symbols = (let past = c.loop-symbol-test.false in let most = c.loop-symbol.auto.symbol-end in let all = c.symbols-symbol-end.ensures.value in omega (arith, past, most, all)) in
    c.loop-symbol.invariant ∙ ap (λ (bs : List Outcome). c.args.table.now ++ bs) (ap (λ k. flat_map (part f r.symbols n) (range_with_len 0 k)) end
    ∙ all_parts f r.symbols n (length c.args.rest.now) (ap length c.in-Some.ensures.cases.0))
