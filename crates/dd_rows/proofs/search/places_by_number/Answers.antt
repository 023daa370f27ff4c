use Rattle.std.proofs.Common.{◌≡◌, ◌<◌, ◌∙◌, ap, get_or, length, refl, rules, arith}
use Rattle.std.proofs.lemmas.List.FromFn.{length-map-range_with_len}
use Rattle.dd_rows.specs.listing.Levels.{chosen}
use Rattle.std.specs.Prelude.{take}
use Rattle.dd_rows.proofs.Chosen.{put_in, left_out}
use Rattle.dd_rows.proofs.search.places_by_number.Goals.{then-number-len+in_ok-push, else-number-len}
use Rattle.dd_rows.proofs.search.places_by_number.Goals as goal

pub loop-i-preserved : goal.loop-i-preserved
loop-i-preserved c =
    let ns = c.args.numbers.now in
    let cs = c.args.cells.now in
    let i = c.loop-i.i in
    let below = c.loop-i-test.true in
    let within : i < length ns = (let size = c.requires in omega (arith, size, below)) in
    let count : c.len.result ≡ length c.loop-i.places.items = search rules in
    let size : length c.loop-i.places.items ≡ length cs = ap length c.loop-i.invariant ∙ length-map-range_with_len (chosen (take i ns) (take i cs)) 0 (length cs) in
    elim c.if-number-len.branch [
      | then-number-len+in_ok-push w ↦
          let low : get_or ns i 0 < length cs = (let test = w.if-number-len.true in omega (arith, test, count, size)) in
          put_in ns cs (length cs) i (get_or ns i 0) w.index-cells-i.result w.index_mut-list.result.now w.push.new.self c.loop-i.places.items c.if-number-len.places.items within below refl low
          c.loop-i.invariant w.index_mut-list.ensures.value w.index-cells-i.is w.in_ok-push.ensures.ok (ap (λ v. v.items) w.places-is)
      | else-number-len w ↦
          left_out ns cs (length cs) i c.loop-i.places.items c.if-number-len.places.items within below (let test = w.if-number-len.false in omega (arith, test, count, size))
          c.loop-i.invariant (ap (λ v. v.items) w.places-is)
    ]
