use Rattle.std.proofs.Common.{◌≡◌, ◌∙◌, ◌++◌, ◌∷◌, [], List, ℕ, ap, sym, subst}
use Rattle.dd_rows.specs.listing.Repeats.{ShowsSame, EndsAlike, HasKnown}
use Rattle.dd_rows.proofs.RepeatLaws.{none_known, same_none, keep, skip, whole_same}
use Rattle.dd_rows.proofs.repeats.without_repeats.Goals.{then-not-ends_alike+in_ok-filling+in_ok-push, else-not-ends_alike}
use Rattle.dd_rows.proofs.repeats.without_repeats.Goals as goal

pub loop-symbols-init : goal.loop-symbols-init
loop-symbols-init c = (
  subst (ShowsSame c.args.views.now []) (sym c.new-shown.ensures) (same_none c.args.views.now),
  subst (HasKnown c.args.fillings.now) (sym c.new-shown.ensures) (none_known c.args.fillings.now),
)

pub loop-symbols-preserved : goal.loop-symbols-preserved
loop-symbols-preserved c =
    let v = c.args.views.now in
    let lists = c.args.fillings.now in
    let i = c.loop-symbols.symbols-index in
    let d = c.symbols-item.result in
    elim c.if-not-ends_alike.branch [
      | then-not-ends_alike+in_ok-filling+in_ok-push w ↦
          let copied : w.in_ok-filling.filling ≡ d = w.in_ok-filling.ensures ∙ w.as_slice-then-not-ends_alike.ensures in
          keep v lists i d c.loop-symbols.shown c.if-not-ends_alike.shown c.loop-symbols-test.true c.symbols-item.is c.loop-symbols.invariant
          (w.shown-is ∙ (w.in_ok-push.ensures.ok ∙ ap (λ (f : List ℕ). c.loop-symbols.shown ++ f ∷ []) copied))
      | else-not-ends_alike w ↦
          let ends : EndsAlike v c.loop-symbols.shown d =
          subst (EndsAlike v c.loop-symbols.shown) c.as_slice-in-loop-symbols.ensures (subst (λ (ls : List (List ℕ)). EndsAlike v ls c.as_slice-in-loop-symbols.result.now) c.as_slice.ensures (c.ends_alike.ensures w.if-not-ends_alike.false)) in
          skip v lists i d c.loop-symbols.shown c.if-not-ends_alike.shown c.loop-symbols-test.true c.symbols-item.is c.loop-symbols.invariant ends w.shown-is
    ]

pub returns-clause-same : goal.returns-clause-same
returns-clause-same c = whole_same c.args.views.now c.args.fillings.now c.loop-symbols.symbols-index c.loop-symbols.shown c.loop-symbols-test.false c.loop-symbols.invariant.0
