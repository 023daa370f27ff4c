use Rattle.std.proofs.Common.{◌≡◌, ℕ, ◌+◌, ◌≤◌, length}
use Rattle.dd_transfer.specs.Windows.{digits}
use Rattle.dd_transfer.proofs.Next.{Carries}
use Rattle.dd_transfer.proofs.windows.advance_digits.Given as goal

abbrev pub invariant-loop-at : goal.invariant-loop-at
invariant-loop-at l = record {
  within : l.at ≤ length l.symbols;
  count : length l.symbols ≡ length l.fn.symbols;
  carries : (n : ℕ) → l.fn.symbols ≡ digits l.base (length l.fn.symbols) n → Carries l.base l.at l.symbols (digits l.base (length l.fn.symbols) (n + 1));
}

abbrev pub decreases-loop-at : goal.decreases-loop-at
decreases-loop-at l = l.at
