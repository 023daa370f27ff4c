-- `one_at` is 0 for two different numbers.
use Rattle.std.proofs.{Common.◌≡◌, Common.pos, Common.cond, Common.ℕ, Common.ap, lemmas.Bool.ne_eqb}
use Rattle.dd_rows.specs.Programs.{one_at}

pub one_elsewhere : (k n : ℕ) → (k ≡ n → ⊥) → one_at k n ≡ pos 0
one_elsewhere k n apart = ap (λ b. pos (cond b 1 0)) (ne_eqb k n apart)
