use Rattle.std.proofs.Common.{◌<◌, ◌+◌, length, ap, arith}
use Rattle.dd_trail.proofs.Copying.{swap_copied}
use Rattle.dd_trail.proofs.watches.rewatch.Goals.{then-eq, else-eq}
use Rattle.dd_trail.proofs.watches.rewatch.Goals as goal

pub returns-then-numbers-watched-clause-copied : goal.returns-then-numbers-watched-clause-copied
returns-then-numbers-watched-clause-copied c =
    let cs = c.args.literals.now in
    let second : c.args.clause + 1 < length cs = omega (arith, c.if-second-literals.false) in
    let within : c.if-eq.watched.0 < length cs = elim c.if-eq.branch [
      | then-eq w ↦ omega (arith, second, ap (λ p. p.0) w.watched-is)
      | else-eq w ↦ omega (arith, second, ap (λ p. p.0) w.watched-is)
    ] in
    swap_copied c.args.numbers.now cs c.swap.new.self c.if-eq.watched.0 c.in-Some.place c.swap.ensures.len within c.in-Some.ensures.1 c.if-numbers-watched.true c.swap.ensures.by_index
