use Rattle.std.proofs.Common.{◌≡◌, ◌+◌, ℕ, Bool, refl, true, false, [], ◌∷◌, length, ap, sym, ◌∙◌, arith, length-append}
use Rattle.std.proofs.lemmas.List.Elements.{filter-append}
use Rattle.std.specs.{Prelude.not, Prelude.cond, List.filter, List.range_with_len}
use Rattle.dd_formula.specs.{LocalRule.rule_allows, lemmas.Ranges.range_push}
use Rattle.dd_counts.proofs.clauses.disallowed_at.Goals.{then-not-allows, else-not-allows}
use Rattle.dd_counts.proofs.clauses.disallowed_at.Goals as goal

one_kept : (p : ℕ → Bool) (n : ℕ) (b : Bool) → p n ≡ b → length (filter p (n ∷ [])) ≡ cond b 1 0
one_kept p n true h = rw h refl
one_kept p n false h = rw h refl

-- if n has the property p, there is one more number with this property below n + 1 than below n; otherwise there are equally many
counted : (p : ℕ → Bool) (n : ℕ) (b : Bool) → p n ≡ b → length (filter p (range_with_len 0 (n + 1))) ≡ length (filter p (range_with_len 0 n)) + cond b 1 0
counted p n b h =
    ap (λ r. length (filter p r)) (range_push n)
    ∙ (ap length (filter-append p (range_with_len 0 n) (n ∷ []))
    ∙ (length-append (filter p (range_with_len 0 n)) (filter p (n ∷ [])) ∙ ap (λ k. length (filter p (range_with_len 0 n)) + k) (one_kept p n b h)))

pub loop-symbol-preserved : goal.loop-symbol-preserved
loop-symbol-preserved c =
    let p : ℕ → Bool = λ s. not (rule_allows c.args.rule.now c.args.node s) in
    let n = c.loop-symbol.symbol in
    let before = c.loop-symbol.invariant.count in
    elim c.if-not-allows.branch [
      | then-not-allows w ↦ (let is : p n ≡ true = ap not (sym c.allows.ensures.value ∙ w.if-not-allows.true) in
          let next = counted p n true is in
          record { count = omega (arith, next, before, w.count-is); few = omega arith })
      | else-not-allows w ↦ (let is : p n ≡ false = ap not (sym c.allows.ensures.value ∙ w.if-not-allows.false) in
          let next = counted p n false is in
          record { count = omega (arith, next, before, w.count-is); few = omega arith })
    ]
