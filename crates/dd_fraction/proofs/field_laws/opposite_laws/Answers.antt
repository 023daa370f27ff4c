use Rattle.dd_fraction.specs.lemmas.Laws.{minus_minus, plus_minus, minus_plus, minus_times, minus_times_right}
use Rattle.dd_fraction.proofs.field_laws.opposite_laws.Goals as goal

pub returns : goal.returns
returns c =
    record {
      twice = minus_minus;
      sum = plus_minus;
      of_sum = minus_plus;
      of_product_left = minus_times;
      of_product_right = minus_times_right;
    }
