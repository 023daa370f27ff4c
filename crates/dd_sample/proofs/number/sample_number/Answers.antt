use Rattle.std.proofs.{Common.◌≡◌, Common.Ok, Common.Err, Common.refl, Common.arith, lemmas.Bool.false≢true}
use Rattle.dd_sample.proofs.Words.{not_led, read_again, written}
use Rattle.dd_sample.proofs.number.sample_number.Goals as goal

pub returns-then-is_led : goal.returns-then-is_led
returns-then-is_led c = λ n writes. not_led c.args.word.now n writes (c.if-is_led.ensures.0 refl)

pub returns-in-Ok : goal.returns-in-Ok
returns-in-Ok c =
    written c.args.word.now c.in-Ok.number c.parse.result c.in-Ok.is c.parse.ensures.value.0 (λ led. false≢true (c.if-is_led.ensures.1 led)) c.if-number-le-LARGEST.true

pub returns-in_default : goal.returns-in_default
returns-in_default c = λ n writes.
    let same : c.in-Ok.number ≡ n = cc (read_again c.args.word.now n (Ok c.in-Ok.number) c.in-Ok.ensures.value.0 writes) in
    omega (arith, same, c.if-number-le-LARGEST.false, writes.0.1)

pub returns-in_default-2 : goal.returns-in_default-2
returns-in_default-2 c = λ n writes.
    absurd (cc (read_again c.args.word.now n (Err c.in_default.field-0) c.in_default.ensures.value.0 writes))
