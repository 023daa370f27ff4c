use Rattle.std.proofs.Common.{List, ℕ, subst}
use Rattle.dd_rows.specs.listing.Repeats.{ShowAlike}
use Rattle.dd_rows.proofs.repeats.ends_alike.Goals as goal

pub returns-in-Some : goal.returns-in-Some
returns-in-Some c = λ yes. record {
  front = c.in-Some._front.now;
  last = c.in-Some.last.now;
  is = c.in-Some.ensures.cases.0;
  alike = subst (λ (ss : List ℕ). ShowAlike c.args.views.now ss c.args.symbols.now) c.as_slice.ensures (c.show_alike.ensures yes);
}
