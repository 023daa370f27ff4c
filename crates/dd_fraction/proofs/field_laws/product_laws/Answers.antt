use Rattle.dd_fraction.specs.lemmas.Laws.{times_comm, times_assoc, times_plus, plus_times, one_times, times_one, zero_times, times_zero, times_inverse, times_low_left, times_low_right, low_times}
use Rattle.dd_fraction.proofs.field_laws.product_laws.Goals as goal

pub returns : goal.returns
returns c =
    record {
      comm = times_comm;
      assoc = times_assoc;
      over_sum = times_plus;
      sum_over = plus_times;
      one_left = one_times;
      one_right = times_one;
      zero_left = zero_times;
      zero_right = times_zero;
      inverse = times_inverse;
      low_left = times_low_left;
      low_right = times_low_right;
      lowest = low_times;
    }
