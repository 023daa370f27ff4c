-- Tests that are false, and the statements that they decide.
use Rattle.std.proofs.{Common.◌≡◌, Common.true, Common.false, lemmas.Bool.false≢true}
use Rattle.std.specs.Prelude.{◌↔◌}

-- a test whose result is false decides each statement that doesn't hold
pub nothing_holds : (A : Type 0) → (A → ⊥) → (false ≡ true) ↔ A
nothing_holds A none = (λ h. absurd (false≢true h), λ a. absurd (none a))
