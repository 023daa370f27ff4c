use Rattle.dd_fraction.specs.lemmas.OrderLaws.{at_most_plus, at_most_times, at_most_minus, at_most_gap, at_most_from_gap, at_most_from_nonneg, nonneg_from_at_most, nonneg_plus, nonneg_times, positive_plus, positive_times, positive_inverse}
use Rattle.dd_fraction.proofs.field_laws.ordered_field_laws.Goals as goal

pub returns : goal.returns
returns c =
    record {
      sums = at_most_plus;
      products = at_most_times;
      opposites = at_most_minus;
      gap = at_most_gap;
      from_gap = at_most_from_gap;
      nonneg = at_most_from_nonneg;
      from_nonneg = nonneg_from_at_most;
      nonneg_sums = nonneg_plus;
      nonneg_products = nonneg_times;
      positive_sums = positive_plus;
      positive_products = positive_times;
      positive_inverses = positive_inverse;
    }
