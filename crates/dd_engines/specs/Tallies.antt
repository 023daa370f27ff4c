-- The counts of an engine: how often it was asked, and how often it proposed something.
use Rattle.std.specs.Prelude.{ℕ}

pub record Counts : Type 0 where
  pub asked : ℕ
  pub given : ℕ
