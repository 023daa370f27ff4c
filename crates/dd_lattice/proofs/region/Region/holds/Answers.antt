use Rattle.std.proofs.{Common.Err, Common.◌∙◌, lemmas.Bool.false≢true}
use Rattle.dd_lattice.specs.lemmas.{InOrderLaws.place_total, InOrderLaws.places_equal, SearchLaws.search_tells}
use Rattle.dd_lattice.proofs.region.Region.holds.Goals as goal

pub returns-in-Err : goal.returns-in-Err
returns-in-Err c =
    let e = c.in-Err.ensures in
    let not_in = search_tells place_total places_equal c.as_slice.result.now c.args.p.now (Err c.in-Err.field-0) (rw c.as_slice.ensures.value c.self.invariant.ascending) e.bound e.position in
    let same = c.as_slice.ensures.value ∙ c.self.view_is in
    (λ h. absurd (false≢true h), λ h. absurd (not_in (rw same h)))
