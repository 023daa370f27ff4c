-- If the bound is at least 1, there is a last clause that sets it.
use Rattle.std.proofs.Common.{◌≡◌, ℕ, zero, suc, ◌+◌, ◌<◌, List, [], ◌∷◌, map, length, get_or, refl, ap, arith, length-append}
use Rattle.std.proofs.lemmas.Option.{slice_get-get_or}
use Rattle.std.specs.{Prelude.◌-◌, List.range_with_len}
use Rattle.dd_circuit.specs.{declared.gates.Signal.Signal, Circuits.signal_of}
use Rattle.dd_cnf.specs.Encoding.{opposing}
use Rattle.dd_counter.specs.Counter.{Making, joined, count, row, rows, refusal_of, last_refused}

joined_length : (make : ℕ → Making) → ((s n : ℕ) → length (make s n).signals ≡ 1) → (c a n : ℕ) → length (joined (map make (range_with_len a c)) n).signals ≡ c
joined_length make one zero a n = refl
joined_length make one (suc c) a n =
    let rest = joined (map make (range_with_len (a + 1) c)) (n + length (make a n).gates) in
    let e = length-append (make a n).signals rest.signals in
    let here = one a n in
    let more = joined_length make one c (a + 1) (n + length (make a n).gates) in
    omega (arith, e, here, more)

row_length : (ws : List ℕ) (below k : ℕ) (before : List Signal) (n : ℕ) → length (row ws below k before n).signals ≡ below
row_length ws below k before n = joined_length (count ws k before) (λ t m. refl) below 0 n

rows_length : (ws : List ℕ) (below c k : ℕ) (before : List Signal) (n : ℕ) → length before ≡ below → length (rows ws below c k before n).signals ≡ below
rows_length ws below zero k before n full = full
rows_length ws below (suc c) k before n full =
    let first = row ws below k before n in
    rows_length ws below c (k + 1) first.signals (n + length first.gates) (row_length ws below k before n)

all_length : (ws : List ℕ) (below c n : ℕ) → 0 < c → length (rows ws below c 0 [] n).signals ≡ below
all_length ws below zero n some = absurd (omega arith)
all_length ws below (suc c) n some =
    let first = row ws below 0 [] n in
    rows_length ws below c 1 first.signals (n + length first.gates) (row_length ws below 0 [] n)

-- there is a last clause, and it says that the last signal is false; this signal says that all cells together weigh at least the bound
pub unit_there : (ws : List ℕ) (below c n : ℕ) → 0 < c → 0 < below → let signals = (rows ws below c 0 [] n).signals in
    last_refused below signals ≡ (opposing (get_or signals (below - 1) (signal_of 0)) ∷ []) ∷ []
unit_there ws below c n some bounded =
    let signals = (rows ws below c 0 [] n).signals in
    let full = all_length ws below c n some in
    ap refusal_of (slice_get-get_or signals (below - 1) (signal_of 0) (omega (arith, full, bounded)))
