use Rattle.std.proofs.Common.{◌≡◌, ◌<◌, ◌∙◌, sym, ap, subst, length, arith}
use Rattle.std.proofs.lemmas.List.{get_or_default}
use Rattle.dd_trail.specs.Copies.{number_at, end_mark}
use Rattle.dd_trail.specs.keeping.Copying.{is_kept}
use Rattle.dd_trail.proofs.Keeping.{Keeps, keeps_more, keeps_less, kept_copied}
use Rattle.dd_trail.proofs.copies.keep_alive.Goals.{then-is_alive, else-is_alive}
use Rattle.dd_trail.proofs.copies.keep_alive.Goals as goal

pub loop-place-preserved : goal.loop-place-preserved
loop-place-preserved c =
    let alive = c.args.alive.now in
    let ns = c.args.numbers.now.items in
    let cs = c.args.codes.now.items in
    let k = c.loop-place.invariant in
    let p = c.loop-place.place in
    let lt : p < length ns = omega (arith, c.loop-place-test.true, c.len-place-end.ensures, c.args.numbers.now.ok.0) in
    let n : c.index-number.result.now ≡ number_at ns p = c.index-number.ensures ∙ get_or_default c.loop-place.numbers.items p _ 0 (omega (arith, lt, k.as_many)) ∙ k.later p (omega arith) in
    elim c.if-is_alive.branch [
      | then-is_alive w ↦
          let e = w.index.ensures ∙ get_or_default c.loop-place.codes.items p _ end_mark (omega (arith, lt, k.as_many_codes, c.requires.as_many)) ∙ k.later_codes p (omega arith) in
          rw (w.kept-is, w.codes-is, w.numbers-is, n) (keeps_more alive ns cs c.requires.as_many c.requires.rise c.loop-place.kept p c.loop-place.numbers.items c.loop-place.codes.items w.index.result.now k lt (sym (ap (is_kept alive) n) ∙ sym c.is_alive.ensures ∙ w.if-is_alive.true) e)
      | else-is_alive w ↦
          rw (w.kept-is, w.codes-is, w.numbers-is) (keeps_less alive ns cs c.requires.as_many c.loop-place.kept p c.loop-place.numbers.items c.loop-place.codes.items k lt (sym (ap (is_kept alive) n) ∙ sym c.is_alive.ensures ∙ w.if-is_alive.false))
    ]

pub returns-clause-copied : goal.returns-clause-copied
returns-clause-copied c =
    let alive = c.args.alive.now in
    let ns = c.args.numbers.now.items in
    let cs = c.args.codes.now.items in
    let k = c.loop-place.invariant in
    let whole : c.loop-place.place ≡ length ns = omega (arith, k.within, c.loop-place-test.false, c.len-place-end.ensures, c.args.numbers.now.ok.0) in
    rw (c.truncate.ensures.items, c.truncate-2.ensures.items) (kept_copied alive ns cs c.requires.as_many c.loop-place.kept c.loop-place.numbers.items c.loop-place.codes.items (subst (λ i. Keeps alive ns cs c.loop-place.kept i c.loop-place.numbers.items c.loop-place.codes.items) whole k))
