use Rattle.std.proofs.Common.{◌≡◌, ℕ, suc, ◌+◌, ◌-◌, ◌<◌, length, arith, refl, ◌∙◌, subst}
use Rattle.std.proofs.lemmas.List.{length-set}
use Rattle.dd_transfer.specs.Windows.{digits}
use Rattle.dd_transfer.proofs.Next.{Carries, carries_all, carried_on, grown}
use Rattle.dd_transfer.proofs.windows.advance_digits.Goals as goal

pub loop-at-init : goal.loop-at-init
loop-at-init c = record {
  within = omega arith;
  count = refl;
  carries = λ n h. carries_all c.args.base n c.args.symbols.now h;
}

pub loop-at-preserved : goal.loop-at-preserved
loop-at-preserved c =
    let at = c.loop-at.at in
    let xs = c.loop-at.symbols in
    let back : at ≡ suc (at - 1) = omega arith in
    let below : at - 1 < length xs = omega (arith, c.loop-at.invariant.within) in
    record {
      within = omega (arith, length-set xs (at - 1) 0, c.loop-at.invariant.within);
      count = length-set xs (at - 1) 0 ∙ c.loop-at.invariant.count;
      carries = λ n h.
          let wanted = digits c.args.base (length c.args.symbols.now) (n + 1) in
          let here : Carries c.args.base (suc (at - 1)) xs wanted = subst (λ (m : ℕ). Carries c.args.base m xs wanted) back (c.loop-at.invariant.carries n h) in
          carried_on c.args.base (at - 1) xs wanted c.requires below here (omega (arith, c.if-digit-greatest.false));
    }

pub returns-then-digit-greatest : goal.returns-then-digit-greatest
returns-then-digit-greatest c = λ n h.
    let at = c.loop-at.at in
    let xs = c.loop-at.symbols in
    let back : at ≡ suc (at - 1) = omega arith in
    let below : at - 1 < length xs = omega (arith, c.loop-at.invariant.within) in
    let wanted = digits c.args.base (length c.args.symbols.now) (n + 1) in
    let here : Carries c.args.base (suc (at - 1)) xs wanted = subst (λ (m : ℕ). Carries c.args.base m xs wanted) back (c.loop-at.invariant.carries n h) in
    grown c.args.base (at - 1) xs wanted c.requires below here (omega (arith, c.if-digit-greatest.true))

pub returns : goal.returns
returns c = λ n h.
    let none : c.loop-at.at ≡ 0 = omega arith in
    let wanted = digits c.args.base (length c.args.symbols.now) (n + 1) in
    let here : Carries c.args.base 0 c.loop-at.symbols wanted = subst (λ (m : ℕ). Carries c.args.base m c.loop-at.symbols wanted) none (c.loop-at.invariant.carries n h) in
    here.carried
