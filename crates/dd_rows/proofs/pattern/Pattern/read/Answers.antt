use Rattle.std.proofs.{Common.◌≡◌, Common.◌∙◌, Common.get_or, Common.ap, Common.sym, Common.arith, lemmas.List.get_or_default}
use Rattle.std.proofs.lemmas.Option.{unwrap_or-slice_get}
use Rattle.std.specs.Prelude.{unwrap_or, slice_get}
use Rattle.dd_rows.proofs.Collected.{mapped_next}
use Rattle.dd_rows.proofs.pattern.Pattern.read.Goals as goal

pub loop-number-preserved : goal.loop-number-preserved
loop-number-preserved c =
    let numbers = c.args.numbers.now in
    let i = c.loop-number.number-index in
    let n = get_or numbers i 0 in
    let seen : c.unwrap_or.result ≡ unwrap_or (slice_get c.args.symbols.now n) 0 =
    c.unwrap_or.ensures ∙ (ap (λ o. unwrap_or o 0) c.copied.ensures ∙ (c.get.ensures.lookup.4 (omega arith) 0 ∙ sym (unwrap_or-slice_get c.args.symbols.now n 0))) in
    mapped_next (λ n. unwrap_or (slice_get c.args.symbols.now n) 0) numbers i (get_or numbers i 0) c.loop-number.self-inside.symbols.items c.push.new.self.items c.unwrap_or.result
    c.loop-number-test.true c.loop-number.invariant (get_or_default numbers i 0 (get_or numbers i 0) c.loop-number-test.true) seen c.in_ok-push.ensures.items
