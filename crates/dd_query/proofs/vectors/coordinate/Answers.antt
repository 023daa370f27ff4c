use Rattle.std.proofs.Common.{sym}
use Rattle.dd_query.specs.lemmas.Offsets.{near_at}
use Rattle.dd_query.proofs.vectors.coordinate.Goals as goal

pub signed_value-requires : goal.signed_value-requires
signed_value-requires c = near_at c.args.text.now c.args.vector.now.entries c.args.axis c.in-Some.entry.now c.requires (sym c.in-Some.ensures)
