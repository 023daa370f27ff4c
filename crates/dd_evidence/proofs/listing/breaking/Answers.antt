use Rattle.dd_evidence.proofs.Patterns.{never_large}
use Rattle.dd_evidence.proofs.listing.breaking.Goals as goal

pub unreachable-requires : goal.unreachable-requires
unreachable-requires c =
    never_large c.args.rule.now c.args.node c.requires.few c.requires.node (rw c.in-Err-Size.field-0-is at c.in-Err-Size.ensures.err)
