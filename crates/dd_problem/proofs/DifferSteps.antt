-- The gates of two values, and those that tell the values apart, made step by step.
use Rattle.std.proofs.Common.{◌≡◌, ◌<◌, ◌≤◌, ℕ, ◌+◌, List, [], ◌∷◌, ◌++◌, length, refl, ap, ◌∙◌, arith, append_assoc, length-append}
use Rattle.dd_lattice.specs.declared.position.Cell.{Cell}
use Rattle.dd_formula.specs.declared.automaton.Automaton.{Automaton}
use Rattle.dd_circuit.specs.declared.gates.{Signal.Signal, Gate.Gate, Gate.TheVariants.Or}
use Rattle.dd_circuit.specs.Circuits.{Network, size, signal_of}
use Rattle.dd_compile.specs.{Wiring.Wiring, Compiling.AllMade, ValueGates.fresh, ValueGates.value_made, lemmas.Progress.size-append}
use Rattle.dd_problem.specs.Differing.{apart, differ_made}

pub apart_length : (xs ys : List Signal) → length ys ≡ length xs → length (apart xs ys) ≡ length xs
apart_length [] ys same = refl
apart_length (x ∷ xs) [] same = absurd (omega arith)
apart_length (x ∷ xs) (y ∷ ys) same = let rest = apart_length xs ys (omega (arith, same)) in omega (arith, rest)

module _ (k : ℕ) (f g : Automaton) (w : Wiring) (at : Cell) (start one : Network) (inputs : one.inputs ≡ start.inputs) (first_gates : one.gates ≡ start.gates ++ (value_made k f w at (size start)).gates) where
  abbrev left : AllMade
  left = value_made k f w at (size start)

  abbrev right : AllMade
  right = value_made k g w at (size start + length left.gates)

  abbrev third : ℕ
  third = size start + length left.gates + length right.gates

  abbrev each : List Gate
  each = apart left.signals right.signals

  pub is_one : size one ≡ size start + length left.gates
  is_one = size-append start one left.gates inputs first_gates

  right_is : value_made k g w at (size one) ≡ right
  right_is = ap (value_made k g w at) is_one

  whole : length (differ_made k f g w at (size start)).gates ≡ length left.gates + length right.gates + length each + 1
  whole =
      let l1 = length-append left.gates right.gates in
      let l2 = length-append (left.gates ++ right.gates) each in
      let l3 = length-append ((left.gates ++ right.gates) ++ each) (Or (fresh third (length each)) ∷ []) in
      omega (arith, l1, l2, l3)

  pub second_few : size start + length (differ_made k f g w at (size start)).gates ≤ 16777216 → size one + length (value_made k g w at (size one)).gates ≤ 16777216
  second_few few = let r = ap (λ (m : AllMade). length m.gates) right_is in omega (arith, whole, is_one, r, few)

  module _ (two : Network) (inputs' : two.inputs ≡ one.inputs) (second_gates : two.gates ≡ one.gates ++ (value_made k g w at (size one)).gates) (first second : List Signal)
      (firsts : first ≡ left.signals) (seconds : second ≡ (value_made k g w at (size one)).signals) where
    is_two : size two ≡ third
    is_two =
        let n = size-append one two (value_made k g w at (size one)).gates inputs' second_gates in
        let r = ap (λ (m : AllMade). length m.gates) right_is in
        omega (arith, n, r, is_one)

    each_is : apart first second ≡ each
    each_is = ap (λ xs. apart xs second) firsts ∙ ap (apart left.signals) (seconds ∙ ap (λ (m : AllMade). m.signals) right_is)

    pub apart_few : length second ≡ length first → size start + length (differ_made k f g w at (size start)).gates ≤ 16777216 → size two + length first ≤ 16777216
    apart_few same few =
        let long = apart_length first second same in
        let e = ap length each_is in
        omega (arith, whole, is_two, long, e, few)

    module _ (three : Network) (inputs'' : three.inputs ≡ two.inputs) (apart_gates : three.gates ≡ two.gates ++ apart first second) (parts members : List Signal)
        (parts_are : parts ≡ fresh (size two) (length (apart first second))) (members_are : members ≡ parts) where
      is_three : size three ≡ third + length each
      is_three =
          let n = size-append two three (apart first second) inputs'' apart_gates in
          let e = ap length each_is in
          omega (arith, n, e, is_two)

      pub last_few : size start + length (differ_made k f g w at (size start)).gates ≤ 16777216 → size three < 16777216
      last_few few = omega (arith, whole, is_three, few)

      members_is : members ≡ fresh third (length each)
      members_is = members_are ∙ (parts_are ∙ (ap (λ n. fresh n (length (apart first second))) is_two ∙ ap (λ gs. fresh third (length gs)) each_is))

      pub parts_below : size two + length (apart first second) ≤ size three
      parts_below = let n = size-append two three (apart first second) inputs'' apart_gates in omega (arith, n)

      so_far : three.gates ≡ start.gates ++ ((left.gates ++ right.gates) ++ each)
      so_far =
          let two_is : two.gates ≡ start.gates ++ (left.gates ++ right.gates) =
          second_gates
          ∙ (ap (λ (m : AllMade). one.gates ++ m.gates) right_is
          ∙ (ap (λ gs. gs ++ right.gates) first_gates ∙ append_assoc start.gates left.gates right.gates)) in
          apart_gates ∙ (ap (λ gs. two.gates ++ gs) each_is ∙ (ap (λ gs. gs ++ each) two_is ∙ append_assoc start.gates (left.gates ++ right.gates) each))

      pub differ_gates : (new : Network) → new.gates ≡ three.gates ++ Or members ∷ [] → new.gates ≡ start.gates ++ (differ_made k f g w at (size start)).gates
      differ_gates new gates =
          gates
          ∙ (ap (λ ss. three.gates ++ Or ss ∷ []) members_is
          ∙ (ap (λ gs. gs ++ Or (fresh third (length each)) ∷ []) so_far
          ∙ append_assoc start.gates ((left.gates ++ right.gates) ++ each) (Or (fresh third (length each)) ∷ [])))

      pub differ_signal : (s : Signal) (n : ℕ) → n ≡ size three + 1 → s ≡ signal_of n → s ≡ (differ_made k f g w at (size start)).signal
      differ_signal s n is signal =
          let l1 = length-append left.gates right.gates in
          let l2 = length-append (left.gates ++ right.gates) each in
          let at_end : n ≡ size start + length ((left.gates ++ right.gates) ++ each) + 1 = omega (arith, is, is_three, l1, l2) in
          signal ∙ ap signal_of at_end
