use Rattle.std.proofs.Common.{◌≡◌, ℕ, List, length, sym, ap, subst, ◌∙◌, arith}
use Rattle.std.proofs.lemmas.Bool.{false≢true}
use Rattle.dd_sample.specs.Sample.{sample_text}
use Rattle.dd_script.specs.{Parts.Parts, Scripts.Spells}
use Rattle.dd_session.proofs.Sampled.{only_memory}
use Rattle.dd_session.proofs.session.sample.Goals as goal

pub parse-requires : goal.parse-requires
parse-requires c =
    omega (arith, ap (λ (l : List ℕ). length l) (c.deref.ensures.value ∙ c.in_ok-bytes.ensures.value), c.sample_script.ensures.fits)

pub returns-in-Ok : goal.returns-in-Ok
returns-in-Ok c =
    subst (λ (l : List ℕ). Spells l c.in-Ok.script) (c.deref.ensures.value ∙ c.in_ok-bytes.ensures.value) c.in-Ok.ensures.spelled

pub unreachable-requires : goal.unreachable-requires
unreachable-requires c =
    let made : (s : Parts) × Spells (sample_text c.args.number) s = c.samples_spell.ensures c.args.number c.requires in
    let text : c.deref.result.now ≡ sample_text c.args.number = c.deref.ensures.value ∙ c.in_ok-bytes.ensures.value in
    let spelled : Spells c.deref.result.now made.0 = subst (λ (l : List ℕ). Spells l made.0) (sym text) made.1 in
    false≢true
    (c.if-is_memory.ensures
    ∙ only_memory c.spelled_or_refused.ensures.never_both c.deref.result.now made.0 spelled c.in-Err.fault.command c.in-Err.fault.kind c.in-Err.ensures.refused)
