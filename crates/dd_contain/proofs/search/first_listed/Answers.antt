use Rattle.std.proofs.lemmas.Option.{slice_get-get_or}
use Rattle.dd_contain.proofs.search.first_listed.Goals as goal

pub returns-in-Some-clause-found : goal.returns-in-Some-clause-found
returns-in-Some-clause-found g c =
    let found = rw c.in-Some.is at c.in_ok-periodic.ensures.found in (
      record {
        place = c.loop-at.at-index;
        stands = slice_get-get_or c.args.all.now c.loop-at.at-index _ c.loop-at-test.true;
        shows = found.0;
        before = c.loop-at.invariant.none;
      },
      found.1,
    )
