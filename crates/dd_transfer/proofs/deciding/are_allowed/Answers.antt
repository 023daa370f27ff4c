use Rattle.std.proofs.Common.{◌≡◌, ◌<◌, ◌%◌, ℕ, List, length, get_or, true, false, arith, refl, ap, ◌∙◌}
use Rattle.dd_formula.specs.LocalRule.{rule_allows}
use Rattle.dd_transfer.proofs.Alphabets.{all_allowed, allowed_each, allowed_by_all}
use Rattle.dd_transfer.proofs.deciding.are_allowed.Goals as goal

pub returns-then-allows_all : goal.returns-then-allows_all
returns-then-allows_all c =
    let r = c.args.rule.now in
    let w = c.args.window.now in (
      λ yes. all_allowed r w c.requires.window (λ k lt. allowed_by_all r w c.requires.window (c.requires.all c.if-allows_all.true) k lt),
      λ all. refl,
    )

pub returns-then-not-allows : goal.returns-then-not-allows
returns-then-not-allows c =
    let r = c.args.rule.now in
    let w = c.args.window.now in
    let k = c.loop-place.place in
    let within : k < length w.symbols = omega (arith, ap length c.symbols-symbols.ensures.value, c.loop-place-test.true) in
    let value : c.allows.result ≡ rule_allows r (k % r.nodes) (get_or w.symbols k 0) =
    c.allows.ensures.value
    ∙ (ap (λ (n : ℕ). rule_allows r (k % n) (get_or c.symbols-symbols.result.now k 0)) c.nodes-nodes.ensures.value
    ∙ ap (λ (xs : List ℕ). rule_allows r (k % r.nodes) (get_or xs k 0)) c.symbols-symbols.ensures.value) in
    (λ f. absurd (cc), λ all. let here = allowed_each r w c.requires.window all k within in let no = c.if-not-allows.true in cc)

pub returns : goal.returns
returns c =
    let w = c.args.window.now in (
      λ yes. all_allowed c.args.rule.now w c.requires.window (λ k lt. c.loop-place.invariant k (omega (arith, ap length c.symbols-symbols.ensures.value, c.loop-place-test.false, lt))),
      λ all. refl,
    )
