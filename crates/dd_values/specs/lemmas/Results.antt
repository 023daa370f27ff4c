-- Results and options.
use Rattle.std.proofs.Common.{Err, Result, Ok, Option, true, refl, None, ℕ, Some, ◌≡◌}
use Rattle.std.specs.Prelude.{IfOk, OnOk, IfSome, is_some}

pub if_ok : {A E : Type 0} (r : Result A E) (P Q : A → Type 0) → ((a : A) → P a → Q a) → IfOk r P → IfOk r Q
if_ok (Ok a) P Q f h = f a h
if_ok (Err e) P Q f h = h

pub if_ok_both : {A E : Type 0} (r : Result A E) (P Q R : A → Type 0) → ((a : A) → P a → Q a → R a) → IfOk r P → IfOk r Q → IfOk r R
if_ok_both (Ok a) P Q R f h k = f a h k
if_ok_both (Err e) P Q R f h k = h

-- what holds in any case holds on success too
pub any_ok : {T E : Type 0} (answer : Result T E) (P : Type 0) → P → OnOk answer P
any_ok (Ok x) P p = p
any_ok (Err e) P p = tt

-- to show a property of an option's value, one may assume that there is a value
pub if_some : (P : ℕ → Type 0) (o : Option ℕ) → (is_some o ≡ true → IfSome o P) → IfSome o P
if_some P None h = tt
if_some P (Some d) h = h refl
