use Rattle.std.proofs.Common.{◌≡◌, ◌*◌, ◌/◌, ◌%◌, ◌≤◌, sym, ap, ◌∙◌, arith}
use Rattle.dd_fraction.specs.Divisor.{greatest_common}
use Rattle.dd_fraction.specs.lemmas.Divisors.{greatest_common-zero, greatest_common-step, greatest_common_le}
use Rattle.dd_fraction.proofs.OddDivisors.{greatest_common-swap, greatest_common-halves}
use Rattle.dd_fraction.proofs.divisor.+word_divisor.Goals as goal

pub returns-then-b-eq0 : goal.returns-then-b-eq0
returns-then-b-eq0 t c =
    let e : c.args.b ≡ 0 = omega arith in
    sym (greatest_common-zero c.args.a) ∙ ap (greatest_common c.args.a) (sym e)

pub returns-then-rest-eq0 : goal.returns-then-rest-eq0
returns-then-rest-eq0 t c =
    let e : c.args.a % c.args.b ≡ 0 = omega arith in
    sym (greatest_common-zero c.args.b) ∙ (ap (greatest_common c.args.b) (sym e) ∙ sym (greatest_common-step c.args.a c.args.b (omega arith)))

pub returns-then-b-eq1 : goal.returns-then-b-eq1
returns-then-b-eq1 t c = c.odd_divisor.ensures ∙ sym (greatest_common-step c.args.a c.args.b (omega arith))

pub returns-then-rest-eq1 : goal.returns-then-rest-eq1
returns-then-rest-eq1 t c =
    c.odd_divisor-then-rest-eq1.ensures ∙ (greatest_common-swap (c.args.a % c.args.b) c.args.b ∙ sym (greatest_common-step c.args.a c.args.b (omega arith)))

pub overflow_mul-result : goal.overflow_mul-result
overflow_mul-result t c =
    let le : greatest_common (c.args.b / 2) (c.args.a % c.args.b / 2) ≤ c.args.a % c.args.b / 2 =
    greatest_common_le (c.args.b / 2) (c.args.a % c.args.b / 2) (omega arith) in
    let e = c.word_divisor.ensures in
    omega (arith, le, e)

pub returns : goal.returns
returns t c =
    let b : c.args.b % 2 ≡ 0 = omega arith in
    let rest : c.args.a % c.args.b % 2 ≡ 0 = omega arith in
    ap (λ n. n * 2) c.word_divisor.ensures
    ∙ (greatest_common-halves c.args.b (c.args.a % c.args.b) b rest ∙ sym (greatest_common-step c.args.a c.args.b (omega arith)))
