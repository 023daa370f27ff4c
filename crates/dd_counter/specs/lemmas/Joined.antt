-- What the signals of joined makings say under an assignment that gives each gate's variable the gate's value.
use Rattle.std.proofs.Common.{◌≡◌, ℕ, zero, suc, ◌+◌, ◌<◌, arith, Bool, true, List, [], ◌∷◌, ◌++◌, map, length, refl, sym, ◌∙◌}
use Rattle.std.proofs.lemmas.{Bool.and_parts, List.map-append}
use Rattle.std.specs.{Prelude.◌||◌, List.list_any, List.range_with_len}
use Rattle.dd_circuit.specs.{declared.gates.Gate.Gate, Circuits.signal_value, Circuits.agrees, lemmas.ValueLaws.agrees-append}
use Rattle.dd_counter.specs.Counter.{Making, joined}
use Rattle.dd_values.specs.lemmas.Booleans.{or_assoc}

pub agrees_parts : (set : ℕ → Bool) (n : ℕ) (gs hs : List Gate) → agrees set n (gs ++ hs) ≡ true → (agrees set n gs ≡ true) × (agrees set (n + length gs) hs ≡ true)
agrees_parts set n gs hs h = and_parts (agrees set n gs) (agrees set (n + length gs) hs) (sym (agrees-append set n gs hs) ∙ h)

pub any_append : {X : Type 0} (p : X → Bool) (xs ys : List X) → list_any p (xs ++ ys) ≡ (list_any p xs || list_any p ys)
any_append p [] ys = refl
any_append p (x ∷ xs) ys = rw (any_append p xs ys) (sym (or_assoc (p x) (list_any p xs) (list_any p ys)))

-- if each making has a true signal exactly when its test passes, some signal of the joined makings is true exactly when some test passes
pub any_joined : (set : ℕ → Bool) (make : ℕ → Making) (test : ℕ → Bool) →
    ((s n : ℕ) → agrees set n (make s n).gates ≡ true → list_any (signal_value set) (make s n).signals ≡ test s) →
    (c a n : ℕ) → agrees set n (joined (map make (range_with_len a c)) n).gates ≡ true →
    list_any (signal_value set) (joined (map make (range_with_len a c)) n).signals ≡ list_any test (range_with_len a c)
any_joined set make test says zero a n h = refl
any_joined set make test says (suc c) a n h =
    let gs = (make a n).gates in
    let rest = joined (map make (range_with_len (a + 1) c)) (n + length gs) in
    let both = agrees_parts set n gs rest.gates h in
    any_append (signal_value set) (make a n).signals rest.signals
    ∙ rw (says a n both.0, any_joined set make test says c (a + 1) (n + length gs) both.1) refl

-- if each making has one signal, with the value of its test, the signals of the joined makings have the values of the tests
pub each_joined : (set : ℕ → Bool) (make : ℕ → Making) (test : ℕ → Bool) (a c : ℕ) →
    ((s n : ℕ) → s < a + c → agrees set n (make s n).gates ≡ true → map (signal_value set) (make s n).signals ≡ test s ∷ []) →
    (n : ℕ) → agrees set n (joined (map make (range_with_len a c)) n).gates ≡ true →
    map (signal_value set) (joined (map make (range_with_len a c)) n).signals ≡ map test (range_with_len a c)
each_joined set make test a zero says n h = refl
each_joined set make test a (suc c) says n h =
    let gs = (make a n).gates in
    let rest = joined (map make (range_with_len (a + 1) c)) (n + length gs) in
    let both = agrees_parts set n gs rest.gates h in
    map-append (signal_value set) (make a n).signals rest.signals
    ∙ rw (says a n (omega arith) both.0, each_joined set make test (a + 1) c (λ s m l. says s m (omega arith)) (n + length gs) both.1) refl
