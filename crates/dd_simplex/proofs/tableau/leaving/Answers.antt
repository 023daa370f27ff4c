use Rattle.std.proofs.Common.{◌≡◌, ◌<◌, List, [], length, true, false, sym, ap, subst, ◌∙◌, rules, arith, to_z-of_z}
use Rattle.std.proofs.lemmas.List.{get_or_default, Elements.All-get_or}
use Rattle.std.specs.Int.{w128, RustNames.int_lt}
use lib.IntN.{pos}
use mir.Val.{SFits}
use Rattle.dd_fraction.specs.{Exact.Exact, Exact.inverse, Checked.checked_quotient}
use Rattle.dd_simplex.specs.{Programs.fraction_at, Programs.zero_of, table.Lines.Line, table.Lines.line_at, table.Choices.does_limit}
use Rattle.dd_simplex.proofs.CellSteps.{product_gives}
use Rattle.dd_simplex.proofs.Choosing.{over_no, over_yes, IsFound, found_skip, found_first, found_keeps, found_new}
use Rattle.dd_simplex.proofs.tableau.leaving.Goals.{in-Some-chosen, in_default-chosen-2, in_default-chosen}
use Rattle.dd_simplex.proofs.tableau.leaving.Goals as goal

pub loop-i-preserved-then-num-le0 : goal.loop-i-preserved-then-num-le0
loop-i-preserved-then-num-le0 c =
    let lines : List Line = c.args.lines.now in
    let i = c.loop-i.i in
    let e = c.args.e in
    let p : i < length lines = omega arith in
    let line = c.line.view_is ∙ (c.index-lines-i.is ∙ get_or_default lines i _ (record { basic = 0; bound = zero_of; cells = [] }) p) in
    let q : e < length (line_at lines i).cells = All-get_or (λ (l : Line). e < length l.cells) lines i _ p c.requires.sizes in
    let room : e < length c.line.inside.cells.items = subst (λ (l : Line). e < length l.cells) (sym line) q in
    let cell : c.index.result.now ≡ fraction_at (line_at lines i).cells e =
    c.index.ensures ∙ (get_or_default c.line.inside.cells.items e _ zero_of room ∙ ap (λ (l : Line). fraction_at l.cells e) line) in
    let num : c.num.result ≡ (fraction_at (line_at lines i).cells e).num = c.num.ensures.value ∙ ap (λ (a : Exact). a.num) cell in
    let fits : SFits w128 c.num.result = search rules in
    let at = simp to_z-of_z at c.if-num-le0.true in
    let no : does_limit lines e i ≡ false = ap (int_lt (pos 0)) (sym num) ∙ over_no c.num.result at in
    let s = found_skip lines e i c.loop-i.least c.loop-i.chosen (record { fit = c.loop-i.invariant.fit; chosen = c.loop-i.invariant.chosen; ratio = c.loop-i.invariant.ratio }) no in
    record { fit = s.fit; chosen = s.chosen; ratio = s.ratio }

pub loop-i-preserved : goal.loop-i-preserved
loop-i-preserved c =
    let lines : List Line = c.args.lines.now in
    let i = c.loop-i.i in
    let e = c.args.e in
    let p : i < length lines = omega arith in
    let line = c.line.view_is ∙ (c.index-lines-i.is ∙ get_or_default lines i _ (record { basic = 0; bound = zero_of; cells = [] }) p) in
    let q : e < length (line_at lines i).cells = All-get_or (λ (l : Line). e < length l.cells) lines i _ p c.requires.sizes in
    let room : e < length c.line.inside.cells.items = subst (λ (l : Line). e < length l.cells) (sym line) q in
    let cell : c.index.result.now ≡ fraction_at (line_at lines i).cells e =
    c.index.ensures ∙ (get_or_default c.line.inside.cells.items e _ zero_of room ∙ ap (λ (l : Line). fraction_at l.cells e) line) in
    let num : c.num.result ≡ (fraction_at (line_at lines i).cells e).num = c.num.ensures.value ∙ ap (λ (a : Exact). a.num) cell in
    let fits : SFits w128 c.num.result = search rules in
    let at = simp to_z-of_z at c.if-num-le0.false in
    let over : does_limit lines e i ≡ true = ap (int_lt (pos 0)) (sym num) ∙ over_yes c.num.result at in
    let basic : c.line.inside.basic ≡ (line_at lines i).basic = ap (λ (l : Line). l.basic) line in
    let bound : c.line.inside.bound ≡ (line_at lines i).bound = ap (λ (l : Line). l.bound) line in
    let given = product_gives (line_at lines i).bound (inverse (fraction_at (line_at lines i).cells e)) c.in-Some.ratio
    (c.in-Some.ensures ∙ (λ k. checked_quotient (bound k) (cell k))) in
    let h : IsFound lines e i c.loop-i.least c.loop-i.chosen = record { fit = c.loop-i.invariant.fit; chosen = c.loop-i.invariant.chosen; ratio = c.loop-i.invariant.ratio } in
    elim c.match-chosen.branch [
      | in-Some-chosen w ↦ (
          let r = w.in-Some-chosen.place in
          let there = subst (IsFound lines e i c.loop-i.least) w.in-Some-chosen.is h in
          let within : r < length lines = omega (arith, there.chosen.0, p) in
          let other = w.variable.ensures ∙ ap (λ (l : Line). l.basic) (w.index-lines-place.is ∙ get_or_default lines r _ (record { basic = 0; bound = zero_of; cells = [] }) within) in
          let s = found_keeps lines e i r c.line.inside.basic w.variable.result c.loop-i.least c.in-Some.ratio there basic other given (sym w.precedes.ensures ∙ w.if-not-precedes.true) in
          rw (w.chosen-is, w.least-is) (record { fit = s.fit; chosen = s.chosen; ratio = s.ratio }))
      | in_default-chosen-2 w ↦ (
          let r = w.in-Some-chosen.place in
          let there = subst (IsFound lines e i c.loop-i.least) w.in-Some-chosen.is h in
          let within : r < length lines = omega (arith, there.chosen.0, p) in
          let other = w.variable.ensures ∙ ap (λ (l : Line). l.basic) (w.index-lines-place.is ∙ get_or_default lines r _ (record { basic = 0; bound = zero_of; cells = [] }) within) in
          let s = found_new lines e i r c.line.inside.basic w.variable.result c.loop-i.least c.in-Some.ratio there basic other over given (sym w.precedes.ensures ∙ w.if-not-precedes.false) in
          rw (w.chosen-is, w.least-is) (record { fit = s.fit; chosen = s.chosen; ratio = s.ratio }))
      | in_default-chosen w ↦ (
          let there = subst (IsFound lines e i c.loop-i.least) w.in_default-chosen.is h in
          let s = found_first lines e i c.loop-i.least c.in-Some.ratio there over given in
          rw (w.chosen-is, w.least-is) (record { fit = s.fit; chosen = s.chosen; ratio = s.ratio }))
    ]
