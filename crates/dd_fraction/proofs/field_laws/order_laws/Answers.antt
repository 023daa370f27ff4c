use Rattle.dd_fraction.specs.lemmas.OrderLaws.{at_most_refl, at_most_trans, at_most_antisymm, at_most_total, at_most_below, below_or_at_most, below_not_at_most, below_trans_left, below_trans_right, exact_cmp-below, exact_cmp-above, exact_cmp-same}
use Rattle.dd_fraction.proofs.field_laws.order_laws.Goals as goal

pub returns : goal.returns
returns c =
    record {
      reflexive = at_most_refl;
      transitive = at_most_trans;
      antisymmetric = at_most_antisymm;
      total = at_most_total;
      below = at_most_below;
      below_or_not = below_or_at_most;
      not_both = below_not_at_most;
      below_left = below_trans_left;
      below_right = below_trans_right;
      less = exact_cmp-below;
      greater = exact_cmp-above;
      equal = exact_cmp-same;
    }
