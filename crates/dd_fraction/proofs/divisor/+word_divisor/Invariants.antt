use Rattle.dd_fraction.proofs.divisor.+word_divisor.Given as goal

abbrev pub decreases-word_divisor : goal.decreases-word_divisor
decreases-word_divisor l = l.b
