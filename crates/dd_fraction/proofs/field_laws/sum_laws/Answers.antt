use Rattle.dd_fraction.specs.lemmas.Laws.{plus_comm, plus_assoc, zero_plus, plus_zero, plus_cancel, plus_low_left, plus_low_right, low_plus}
use Rattle.dd_fraction.proofs.field_laws.sum_laws.Goals as goal

pub returns : goal.returns
returns c =
    record {
      comm = plus_comm;
      assoc = plus_assoc;
      zero_left = zero_plus;
      zero_right = plus_zero;
      cancel = plus_cancel;
      low_left = plus_low_left;
      low_right = plus_low_right;
      lowest = low_plus;
    }
