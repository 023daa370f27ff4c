use Rattle.dd_script.specs.Drafts.{parts_of}
use Rattle.dd_script.proofs.Asking.{question_fits}
use Rattle.dd_script.proofs.draft.Draft.check_limits.Goals as goal

pub excess-requires-clause-formed : goal.excess-requires-clause-formed
excess-requires-clause-formed c =
    let pairs = rw (c.as_slice.ensures, c.as_slice-2.ensures) at c.in_ok-pairs.ensures in
    (question_fits (parts_of c.args.self.now) c.requires.script c.in-Query.query _ (rw c.in-Query.is at c.requires.sound) pairs.sound.formed c.question_of-question.ensures).0
