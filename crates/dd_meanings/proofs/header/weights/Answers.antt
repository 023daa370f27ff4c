use Rattle.std.proofs.Common.{◌≡◌, refl, ap, ◌∙◌, map, arith, rules, min}
use Rattle.dd_written.specs.Values.{written_value}
use Rattle.dd_meanings.specs.declared.meaning.Meaning.{Meaning}
use Rattle.dd_meanings.proofs.{Nothing.parts, HeaderLaws.uncut, HeaderLaws.weights_are}
use Rattle.dd_meanings.proofs.header.weights.Goals as goal

pub returns : goal.returns
returns c =
    let x = c.args.context.now in
    let made : c.from_vec.result ≡ map (λ n. min (written_value x.text n) 4294967295) c.args.weights.now = search rules in
    ((refl, ap Meaning.Weights (made ∙ uncut x c.args.weights.now (grind (arith, parts)))), weights_are x c.args.weights.now c.requires.faultless)
