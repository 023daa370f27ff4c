use Rattle.std.proofs.{Common.arith, Common.rules, lemmas.Grind.common_steps}
use Rattle.dd_pattern.specs.lemmas.TileSizes.{sizes_of}
use Rattle.dd_pattern.proofs.periodic.Periodic.base.Goals as goal

pub quotient-times-requires-clause-small : goal.quotient-times-requires-clause-small
quotient-times-requires-clause-small c = (sizes_of _ c.self.invariant).y_small

pub unsheared-x-requires-clause-small : goal.unsheared-x-requires-clause-small
unsheared-x-requires-clause-small c = (sizes_of _ c.self.invariant).shear_small

pub returns-clause-z : goal.returns-clause-z
returns-clause-z c = grind (arith, common_steps)

pub returns-clause-y : goal.returns-clause-y
returns-clause-y c = grind (arith, common_steps)

pub returns-clause-x : goal.returns-clause-x
returns-clause-x c = search rules
