use Rattle.std.proofs.Common.{◌≡◌, ◌<◌, ◌+◌, ◌^◌, ◌++◌, ◌∷◌, [], true, false, List, map, length, slice_index_or, refl, ap, sym, subst, ◌∙◌, arith}
use Rattle.std.proofs.lemmas.List.{map-append, get_or_default, with_items_is}
use Rattle.std.proofs.lemmas.List.Elements.{All-nil, All-push}
use Rattle.std.specs.List.{All}
use Rattle.dd_formula.specs.LocalRule.{cells_at}
use Rattle.dd_minimal.specs.{Patterns.pattern_of, declared.partial.Partial.Partial, finding.Numbers.reach}
use Rattle.dd_minimal.specs.{finding.Outcomes.outcomes, finding.Outcomes.does_break, declared.outcome.Outcome.TheVariants.Barred}
use Rattle.dd_minimal.specs.finding.{States.IsListedTo, Walks.marked}
use Rattle.dd_minimal.proofs.MarkLaws.{marked_length}
use Rattle.dd_minimal.proofs.ListSteps.{start, end, over_unbroken, over_marked, markable, put, thinned_here, own_strides, own_length, outcomes_length, minimal_list, all_fit}
use Rattle.dd_minimal.proofs.listing.list.Goals.{then-does_break+then-not-index+in_ok-pattern+in_ok-push, else-does_break, else-does_break-via-then-does_break+else-not-index, else-does_break-via-else-does_break}
use Rattle.dd_minimal.proofs.listing.list.Goals as goal

pub loop-at-init : goal.loop-at-init
loop-at-init c =
    let r = c.args.rule.now in
    let a = c.args.node in
    let marks = c.in_ok-marks.marks.items in
    let many : length c.args.table.now ≡ r.symbols ^ length (cells_at r a) = ap length c.requires.table ∙ outcomes_length r a in (
      subst (λ (ps : List Partial). IsListedTo r a 0 (map pattern_of ps) marks) (sym c.new-found.ensures.items)
          (start r a marks (length c.args.table.now) (c.in_ok-marks.ensures.items_if_clones_equal (λ y same. same)) many),
      subst (All (λ (p : Partial). p.node ≡ a)) (sym c.new-found.ensures.items) (All-nil (λ (p : Partial). p.node ≡ a)),
    )

pub thin-requires-clause-strides : goal.thin-requires-clause-strides
thin-requires-clause-strides c = own_strides c.args.rule.now c.args.node c.symbols-symbols.result c.args.strides.now c.symbols-symbols.ensures.value c.requires.strides

pub thin-requires-clause-table : goal.thin-requires-clause-table
thin-requires-clause-table c = own_length c.args.rule.now c.args.node c.symbols-symbols.result c.args.strides.now c.args.table.now c.symbols-symbols.ensures.value c.requires.strides c.requires.table

pub mark-requires : goal.mark-requires
mark-requires c =
    let r = c.args.rule.now in
    let a = c.args.node in
    let at = c.loop-at.at in
    let m = c.symbols-symbols.result in
    let from = c.in_ok-pattern.field-0.from in
    let some : 0 < r.symbols = (let least = c.symbols-symbols.ensures.kept.symbols.0 in omega (arith, least)) in
    let within : at < r.symbols ^ length (cells_at r a) = subst (λ k. at < k) (ap length c.requires.table ∙ outcomes_length r a) c.loop-at-test.true in
    let thinned_ = thinned_here r a at m c.args.strides.now c.args.table.now c.in_ok-pattern.field-0.pattern c.thin.new.left_out.items from c.symbols-symbols.ensures.value c.requires.strides c.requires.table c.in_ok-pattern.ensures in
    subst (λ ms. from + reach m c.as_slice.result.now < length ms) (sym c.deref_mut.ensures.value)
    (subst (λ ds. from + reach m ds < length c.loop-at.marks.items) (sym c.as_slice.ensures.value)
    (subst (λ k. from + reach k c.thin.new.left_out.items < length c.loop-at.marks.items) (sym c.symbols-symbols.ensures.value)
    (markable r a at some within (outcomes r a) c.loop-at.marks.items c.in_ok-pattern.field-0.pattern c.thin.new.left_out.items from c.loop-at.invariant.0.as_many thinned_)))

pub loop-at-preserved : goal.loop-at-preserved
loop-at-preserved c =
    let r = c.args.rule.now in
    let a = c.args.node in
    let at = c.loop-at.at in
    let found = c.loop-at.found.items in
    let marks = c.loop-at.marks.items in
    let some : 0 < r.symbols = (let least = c.symbols-symbols.ensures.kept.symbols.0 in omega (arith, least)) in
    let within : at < r.symbols ^ length (cells_at r a) = subst (λ k. at < k) (ap length c.requires.table ∙ outcomes_length r a) c.loop-at-test.true in
    let broken : does_break (slice_index_or (outcomes r a) at Barred) ≡ c.does_break.result =
    ap (λ os. does_break (slice_index_or os at Barred)) (sym c.requires.table) ∙ sym c.does_break.ensures in
    elim c.if-does_break.branch [
      | then-does_break+then-not-index+in_ok-pattern+in_ok-push w ↦
          let p = w.in_ok-pattern.field-0.pattern in
          let from = w.in_ok-pattern.field-0.from in
          let ds = w.thin.new.left_out.items in
          let one : Partial = record { node = a; symbols = p } in
          let pushed : c.if-does_break.found.items ≡ found ++ one ∷ [] = ap (λ v. v.items) w.found-is ∙ w.in_ok-push.ensures.items in
          let patterns : map pattern_of c.if-does_break.found.items ≡ map pattern_of found ++ p ∷ [] = ap (map pattern_of) pushed ∙ map-append pattern_of found (one ∷ []) in
          let long : length w.mark.new.marks ≡ c.loop-at.marks.len =
          ap length w.mark.ensures ∙ (marked_length c.symbols-symbols.result w.as_slice.result.now w.deref_mut.result.now from ∙ w.deref_mut.ensures.len) in
          let made : c.if-does_break.marks.items ≡ marked r.symbols ds marks from =
          ap (λ v. v.items) w.marks-is ∙ (with_items_is c.loop-at.marks w.mark.new.marks long ∙ (w.mark.ensures ∙ (ap (λ k. marked k w.as_slice.result.now w.deref_mut.result.now from) c.symbols-symbols.ensures.value
          ∙ (ap (λ es. marked r.symbols es w.deref_mut.result.now from) w.as_slice.ensures.value ∙ ap (λ ms. marked r.symbols ds ms from) w.deref_mut.ensures.value)))) in
          let free : slice_index_or marks at false ≡ false = ap (slice_index_or marks at) (sym w.if-not-index.true) ∙ (sym w.index.ensures ∙ w.if-not-index.true) in
          let thinned_ = thinned_here r a at c.symbols-symbols.result c.args.strides.now c.args.table.now p ds from c.symbols-symbols.ensures.value c.requires.strides c.requires.table w.in_ok-pattern.ensures in (
            subst (λ ps. IsListedTo r a (at + 1) ps c.if-does_break.marks.items) (sym patterns)
                (put r a at some within (map pattern_of found) marks c.if-does_break.marks.items p ds from (broken ∙ w.if-does_break.true) free thinned_ made c.loop-at.invariant.0),
            subst (All (λ (q : Partial). q.node ≡ a)) (sym pushed) (All-push (λ (q : Partial). q.node ≡ a) found one c.loop-at.invariant.1 refl),
          )
      | else-does_break w ↦
          let kept : c.if-does_break.found.items ≡ found = ap (λ v. v.items) w.found-is in
          let same : c.if-does_break.marks.items ≡ marks = ap (λ v. v.items) w.marks-is in
          let there : at < length marks = (let many = c.loop-at.invariant.0.as_many in omega (arith, within, many)) in
          let over : IsListedTo r a (at + 1) (map pattern_of found) marks =
          elim w.else-does_break.branch [
            | else-does_break-via-then-does_break+else-not-index v ↦
                over_marked r a at some within (map pattern_of found) marks (get_or_default marks at false true there ∙ (ap (slice_index_or marks at) (sym v.if-not-index.false) ∙ (sym v.index.ensures ∙ v.if-not-index.false))) c.loop-at.invariant.0
            | else-does_break-via-else-does_break v ↦ over_unbroken r a at some within (map pattern_of found) marks (broken ∙ v.if-does_break.false) c.loop-at.invariant.0
          ] in (
            subst (λ ps. IsListedTo r a (at + 1) (map pattern_of ps) c.if-does_break.marks.items) (sym kept) (subst (IsListedTo r a (at + 1) (map pattern_of found)) (sym same) over),
            subst (All (λ (q : Partial). q.node ≡ a)) (sym kept) c.loop-at.invariant.1,
          )
    ]

pub returns-clause-patterns : goal.returns-clause-patterns
returns-clause-patterns c =
    let r = c.args.rule.now in
    let a = c.args.node in
    let over : c.loop-at.at ≡ r.symbols ^ length (cells_at r a) =
    (let past = c.loop-at-test.false in let most = c.loop-at.auto.at-end in let same : c.loop-at.at ≡ length c.args.table.now = omega (arith, past, most) in same)
    ∙ (ap length c.requires.table ∙ outcomes_length r a) in
    minimal_list r c.symbols-symbols.ensures.kept a (map pattern_of c.loop-at.found.items) (end r a c.loop-at.at (map pattern_of c.loop-at.found.items) c.loop-at.marks.items over c.loop-at.invariant.0)

pub returns-clause-nodes : goal.returns-clause-nodes
returns-clause-nodes c = c.loop-at.invariant.1

pub returns-clause-fitting : goal.returns-clause-fitting
returns-clause-fitting c = all_fit c.args.rule.now c.args.node c.requires.node c.loop-at.found.items c.loop-at.invariant.1 c.loop-at.invariant.0.fitting
