use Rattle.dd_sample.specs.Sample.{sample_text}
use Rattle.dd_session.proofs.{Numbered.few_queries, Sampled.sample_over}
use Rattle.dd_session.proofs.session.run_sample.Goals as goal

pub run_lines-requires : goal.run_lines-requires
run_lines-requires g c = few_queries (sample_text c.args.number) c.in-Ok.script c.in-Ok.ensures

pub returns-in-Ok-clause-ended : goal.returns-in-Ok-clause-ended
returns-in-Ok-clause-ended g c = sample_over _ c.args.number c.in-Ok.script _ c.in-Ok.ensures c.run_lines.ensures.wrote

pub returns-in-Ok-clause-asked : goal.returns-in-Ok-clause-asked
returns-in-Ok-clause-asked g c = λ to_end. record {
  script = c.in-Ok.script;
  spelled = c.in-Ok.ensures;
  first = c.run_lines.ensures.asked to_end;
}
