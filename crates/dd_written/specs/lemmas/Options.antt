-- Steps that may fail.
use Rattle.std.proofs.Common.{◌≡◌, Bool, true, false, cond, ◌⊎◌, inl, inr, Option, Some, None, IfSome, refl}
pub use Rattle.std.proofs.lemmas.Option.{same_Some as some_is, none-some as nothing_some}
use Rattle.dd_written.specs.reading.Readers.{◌>>=◌}

-- if two steps in a row give y, then the first gives some x, and the second gives y from that x
pub bind_some : {A B : Type 0} (r : Option A) (f : A → Option B) (y : B) → (r >>= f) ≡ Some y → (x : A) × (r ≡ Some x) × (f x ≡ Some y)
bind_some (Some x) f y e = (x, refl, e)
bind_some None f y e = absurd cc

-- if P holds after the first step, and P before the second step implies Q after it, then Q holds after both steps
pub followed : {A B : Type 0} (r : Option A) (f : A → Option B) (P : A → Type 0) (Q : B → Type 0) → IfSome r P → ((x : A) → P x → IfSome (f x) Q) → IfSome (r >>= f) Q
followed (Some x) f P Q h step = step x h
followed None f P Q h step = tt

-- which branch a choice took
pub chosen : {A : Type 0} (b : Bool) (x y z : A) → cond b x y ≡ z → ((b ≡ true) × (x ≡ z)) ⊎ ((b ≡ false) × (y ≡ z))
chosen true x y z e = inl (refl, e)
chosen false x y z e = inr (refl, e)
