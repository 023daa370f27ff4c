use Rattle.std.proofs.Common.{◌≡◌, ◌≤◌, ◌+◌, ◌*◌, pos, ◌-ℤ◌, ◌+ℤ◌, ap, ◌∙◌, arith}
use Rattle.std.proofs.lemmas.{Int.ints, Result.err_from_is_err_and}
use Rattle.std.specs.Prelude.{◌≤ℤ◌}
use Rattle.dd_lattice.specs.{Regions.IsMoved, listing.Growth.along, listing.Growth.IsStretched, listing.Growth.IsExtended}
use Rattle.dd_lattice.proofs.Sums.{steps_back}
use Rattle.dd_lattice.proofs.GrowthLaws.{fault_weaker, region_same, run_from_moved, moved_from_run, run_weaker, longer_run, run_extended}
use Rattle.dd_lattice.proofs.growing.stretched.Goals as goal

pub returns-in_err-run : goal.returns-in_err-run
returns-in_err-run c =
    let p = err_from_is_err_and c.from_residual.result c.from_residual.ensures.1 in
    let low = pos 0 -ℤ pos c.args.by in
    let high = pos c.args.by +ℤ pos 1 in
    let ps = c.args.region.now in
    let is : c.along.result ≡ along c.args.axis low = c.along.ensures ∙ ap (along c.args.axis) (steps_back c.args.by c.requires) in
    rw (p.1, p.2) (fault_weaker (IsMoved ps (along c.args.axis low)) (IsStretched c.args.axis low high ps) (run_from_moved c.args.axis low high ps (omega (arith, ints))) c.in_err-run.field-0.0
    (rw is at c.in_err-run.ensures.members))

pub loop-copies-init : goal.loop-copies-init
loop-copies-init c =
    let low = pos 0 -ℤ pos c.args.by in
    let high = pos 1 -ℤ pos c.args.by in
    let ps = c.args.region.now in
    let is : c.along.result ≡ along c.args.axis low = c.along.ensures ∙ ap (along c.args.axis) (steps_back c.args.by c.requires) in (
      region_same (IsMoved ps (along c.args.axis low)) (IsStretched c.args.axis low high ps) c.in_ok-run.run'
          (run_from_moved c.args.axis low high ps (omega (arith, ints))) (moved_from_run c.args.axis low high ps (omega (arith, ints))) (rw is at c.in_ok-run.ensures.members),
      omega arith,
      omega arith,
    )

pub returns-in_err-run-2 : goal.returns-in_err-run-2
returns-in_err-run-2 c =
    let p = err_from_is_err_and c.from_residual-in_err-run-2.result c.from_residual-in_err-run-2.ensures.1 in
    let low = pos 0 -ℤ pos c.args.by in
    let high = pos c.loop-copies.copies -ℤ pos c.args.by in
    let last = pos c.args.by +ℤ pos 1 in
    let s = pos c.min-more.result in
    let ps = c.args.region.now in
    let run = c.loop-copies.run in
    let room : c.loop-copies.copies + c.min-more.result ≤ 2 * c.args.by + 1 = omega arith in
    let most : (high +ℤ s) ≤ℤ last = omega (arith, ints) in
    rw (p.1, p.2) (fault_weaker (IsExtended c.args.axis s run) (IsStretched c.args.axis low last ps)
    (λ q h. run_weaker c.args.axis low (high +ℤ s) last ps most q (longer_run c.args.axis low high s ps run (omega (arith, ints)) c.loop-copies.invariant.0 q h))
    c.in_err-run-2.field-0.0 c.in_err-run-2.ensures)

pub loop-copies-preserved : goal.loop-copies-preserved
loop-copies-preserved c =
    let low = pos 0 -ℤ pos c.args.by in
    let high = pos c.loop-copies.copies -ℤ pos c.args.by in
    let next = pos (c.loop-copies.copies + c.min-more.result) -ℤ pos c.args.by in
    let s = pos c.min-more.result in
    let ps = c.args.region.now in
    let run = c.loop-copies.run in
    let is : high +ℤ s ≡ next = omega (arith, ints) in
    let room : c.loop-copies.copies + c.min-more.result ≤ 2 * c.args.by + 1 = omega arith in
    let fewer : c.min-more.result ≤ c.loop-copies.copies = omega arith in
    let short : (low +ℤ s) ≤ℤ high = omega (arith, ints) in
    let longer = region_same (IsExtended c.args.axis s run) (IsStretched c.args.axis low (high +ℤ s) ps) c.in_ok-run-2.run'
    (longer_run c.args.axis low high s ps run (omega (arith, ints)) c.loop-copies.invariant.0)
    (run_extended c.args.axis low high s ps run (omega (arith, ints)) short c.loop-copies.invariant.0) c.in_ok-run-2.ensures in
    (rw is at longer, omega arith, room)
