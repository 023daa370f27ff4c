use Rattle.std.proofs.Common.{◌≡◌, List, ℕ, map, subst}
use Rattle.dd_rows.specs.listing.Views.{symbols_at}
use Rattle.dd_rows.proofs.repeats.show_alike.Goals as goal

pub returns : goal.returns
returns c = λ yes.
    let one = c.args.one.now in
    let other = c.args.other.now in
    record {
      centre = subst (λ (ns : List ℕ). symbols_at one ns ≡ symbols_at other ns) c.as_slice.ensures (c.are_same.ensures c.if-not-are_same.false);
      origin = subst (λ (ns : List ℕ). symbols_at one ns ≡ symbols_at other ns) c.as_slice-2.ensures (c.are_same-2.ensures c.if-not-are_same-2.false);
      givers = subst (λ (ls : List (List ℕ)). map (symbols_at one) ls ≡ map (symbols_at other) ls) c.as_slice-3.ensures (c.are_all_same.ensures yes);
    }
