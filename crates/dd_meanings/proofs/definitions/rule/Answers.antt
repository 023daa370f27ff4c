use Rattle.std.proofs.Common.{refl, ap, arith}
use Rattle.dd_meanings.specs.{declared.meaning.Meaning.Meaning, Definitions.rule_of}
use Rattle.dd_meanings.proofs.{Nothing.parts, NameLaws.is_new, SizeLaws.rule_passes, SizeLaws.rule_refuses, WellFormed.is_formula}
use Rattle.dd_meanings.proofs.definitions.rule.Goals as goal

pub new-requires-clause-formula : goal.new-requires-clause-formula
new-requires-clause-formula c = rw c.in_ok-meant.ensures (is_formula c.args.context.now c.args.formula.now c.requires.sound (grind (arith, parts)) c.requires.shallow)

pub returns-in-Ok : goal.returns-in-Ok
returns-in-Ok c =
    let x = c.args.context.now in
    let ok = rw c.in_ok-meant.ensures at c.in-Ok.ensures in
    let formula = is_formula x c.args.formula.now c.requires.sound (grind (arith, parts)) c.requires.shallow in (
      (rule_passes (rule_of x c.args.formula.now) ok.rule, ap (Meaning.Rule c.args.name) ok.ok),
      (is_new x c.args.name (grind (arith, parts)), record { rule = ok.rule; dimension = refl; nodes = refl; symbols = c.requires.sound.setting.alphabet; edges = refl; allowed = refl; formula = formula }),
    )

pub returns-in-Err : goal.returns-in-Err
returns-in-Err c = (rw c.refusal_of.ensures (rule_refuses (rule_of c.args.context.now c.args.formula.now) c.in-Err.fault (rw c.in_ok-meant.ensures at c.in-Err.ensures.err)), tt)
