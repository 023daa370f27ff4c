-- The loop that makes the gates that tell two values apart, symbol by symbol.
use Rattle.std.proofs.Common.{◌≡◌, ◌<◌, ◌≤◌, ℕ, suc, ◌+◌, List, [], ◌∷◌, ◌++◌, length, drop, get_or, ap, sym, ◌∙◌, subst, arith, append_assoc, length-append}
use Rattle.std.proofs.lemmas.List.{drop_all, append-nil}
use Rattle.std.specs.List.{All}
use Rattle.dd_circuit.specs.declared.gates.{Signal.Signal, Gate.TheVariants.And}
use Rattle.dd_circuit.specs.Circuits.{Network, IsSignal, size, signal_of, opposite}
use Rattle.dd_circuit.specs.lemmas.GateLists.{two_in_range}
use Rattle.dd_compile.specs.{Compiling.Extends, ValueGates.fresh, lemmas.CaseGates.next_is, lemmas.Progress.Extends-trans}
use Rattle.dd_problem.specs.Differing.{apart}

pub record Parting (xs ys : List Signal) (i : ℕ) (start now : Network) (signals : List Signal) : Type 0 where
  pub extends : Extends start now
  pub gates_left : start.gates ++ apart xs ys ≡ now.gates ++ apart (drop i xs) (drop i ys)
  pub signals_left : fresh (size start) (length (apart xs ys)) ≡ signals ++ fresh (size now) (length (apart (drop i xs) (drop i ys)))
  pub count : size now ≡ size start + i

module _ (xs ys : List Signal) (i : ℕ) (start now : Network) (signals : List Signal) (x y : Signal) (p : Parting xs ys i start now signals) (below : i < length xs) (below' : i < length ys)
    (is : x ≡ get_or xs i x) (is' : y ≡ get_or ys i y) where
  pub parting_in : (o : Signal) → o ≡ opposite y → All (IsSignal (size start)) xs → All (IsSignal (size start)) ys → All (IsSignal (size now)) (x ∷ o ∷ [])
  parting_in o turned first second =
      let a = subst (IsSignal (size start)) (sym is) (first i x below) in
      let b = subst (IsSignal (size start)) (sym is') (second i y below') in
      two_in_range (size now) x o (a.0, (let top = a.1 in omega (arith, top, p.count))) (subst (IsSignal (size now)) (sym turned) (b.0, (let top = b.1 in omega (arith, top, p.count))))

  pub parting_step : (new : Network) (members more : List Signal) (s : Signal) → members ≡ x ∷ opposite y ∷ [] → new.inputs ≡ now.inputs → new.gates ≡ now.gates ++ And members ∷ [] →
      s ≡ signal_of (size new) → more ≡ signals ++ s ∷ [] → Parting xs ys (i + 1) start new more
  parting_step new members more s are inputs gates signal pushed =
      let rest = apart (drop (i + 1) xs) (drop (i + 1) ys) in
      let grown : length new.gates ≡ length now.gates + 1 = ap length gates ∙ length-append now.gates (And members ∷ []) in
      let one : size new ≡ suc (size now) = omega (arith, grown, inputs) in
      let here : apart (drop i xs) (drop i ys) ≡ And members ∷ rest =
      ap (λ zs. apart zs (drop i ys)) (next_is xs i x below is)
      ∙ (ap (apart (x ∷ drop (i + 1) xs)) (next_is ys i y below' is') ∙ ap (λ ms. And ms ∷ rest) (sym are)) in
      record {
        extends = Extends-trans start now new p.extends (record { inputs = inputs; added = And members ∷ []; gates = gates });
        gates_left = p.gates_left ∙ (ap (λ gs. now.gates ++ gs) here ∙ (sym (append_assoc now.gates (And members ∷ []) rest) ∙ ap (λ gs. gs ++ rest) (sym gates)));
        signals_left =
            p.signals_left
            ∙ (ap (λ gs. signals ++ fresh (size now) (length gs)) here
            ∙ (ap (λ n. signals ++ (signal_of n ∷ fresh n (length rest))) (sym one)
            ∙ (ap (λ z. signals ++ (z ∷ fresh (size new) (length rest))) (sym signal)
            ∙ (sym (append_assoc signals (s ∷ []) (fresh (size new) (length rest))) ∙ ap (λ zs. zs ++ fresh (size new) (length rest)) (sym pushed)))));
        count = omega (arith, one, p.count);
      }

pub parting_end : (xs ys : List Signal) (i : ℕ) (start now : Network) (signals : List Signal) → Parting xs ys i start now signals → length xs ≤ i →
    (now.gates ≡ start.gates ++ apart xs ys) × (signals ≡ fresh (size start) (length (apart xs ys)))
parting_end xs ys i start now signals p past =
    let none : apart (drop i xs) (drop i ys) ≡ [] = ap (λ zs. apart zs (drop i ys)) (drop_all i xs past) in (
      sym (p.gates_left ∙ (ap (λ gs. now.gates ++ gs) none ∙ append-nil now.gates)),
      sym (p.signals_left ∙ (ap (λ gs. signals ++ fresh (size now) (length gs)) none ∙ append-nil signals)),
    )
