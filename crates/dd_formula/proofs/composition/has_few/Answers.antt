use Rattle.std.proofs.Common.{◌≡◌, ◌<◌, ◌≤◌, ℕ, true, false, sym, arith}
use Rattle.std.proofs.lemmas.Bool.{le-leb, Decides.nat_tests}
use Rattle.std.specs.Prelude.{nat_le}
use Rattle.dd_formula.specs.{Counts.cut, Compositions.composition, lemmas.CompositionLaws.passes_more, lemmas.CompositionLaws.range_fails}
use Rattle.dd_formula.proofs.composition.has_few.Goals as goal

many : (n m : ℕ) → n ≡ cut 20000 m → 20000 < n → nat_le m 20000 ≡ false
many n m is more = let past : 20000 < m = omega arith in grind (arith, nat_tests)

few : (n m : ℕ) → n ≡ cut 20000 m → n ≤ 20000 → nat_le m 20000 ≡ true
few n m is most = le-leb m 20000 (omega arith)

pub returns-then-branch-gt-MOST_INSTANCES : goal.returns-then-branch-gt-MOST_INSTANCES
returns-then-branch-gt-MOST_INSTANCES c =
    let at : ℕ → ℕ = λ a. (composition c.args.outer.now c.args.inner.now).instances a in
    sym (range_fails (λ a. nat_le (at a) 20000) c.args.nodes c.loop-node.node c.loop-node-test.true
    (many c.in_ok-composed_instances.field-0 (at c.loop-node.node) c.in_ok-composed_instances.ensures c.if-branch-gt-MOST_INSTANCES.true))

pub loop-node-preserved : goal.loop-node-preserved
loop-node-preserved c =
    let at : ℕ → ℕ = λ a. (composition c.args.outer.now c.args.inner.now).instances a in
    passes_more (λ a. nat_le (at a) 20000) c.loop-node.node c.loop-node.invariant
    (few c.in_ok-composed_instances.field-0 (at c.loop-node.node) c.in_ok-composed_instances.ensures c.if-branch-gt-MOST_INSTANCES.false)
