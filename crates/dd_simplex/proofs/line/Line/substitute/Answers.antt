use Rattle.std.proofs.Common.{◌≡◌, ◌<◌, true, length, sym, ap, subst, ◌∙◌}
use Rattle.std.proofs.lemmas.List.{get_or_default}
use Rattle.dd_fraction.specs.Exact.{Exact}
use lib.IntN.{pos}
use Rattle.dd_simplex.specs.Programs.{fraction_at, zero_of}
use Rattle.dd_simplex.specs.table.Lines.{Line, changed_line, does_changed_fit}
use Rattle.dd_simplex.proofs.IdleLines.{idle_line}
use Rattle.dd_simplex.proofs.line.Line.substitute.Goals as goal

idle : (c : goal.Then-is_zero) → (does_changed_fit c.args.e c.args.pivot.now c.args.self.now ≡ true) × (changed_line c.args.e c.args.pivot.now c.args.self.now ≡ c.args.self.now)
idle c =
    let e = c.args.e in
    let room : e < length c.self.inside.cells.items = subst (λ (l : Line). e < length l.cells) (sym c.self.view_is) c.requires.place in
    let cell : c.index.result.now ≡ fraction_at c.args.self.now.cells e =
    c.index.ensures ∙ (get_or_default c.self.inside.cells.items e _ zero_of room ∙ ap (λ (l : Line). fraction_at l.cells e) c.self.view_is) in
    let zero : (fraction_at c.args.self.now.cells e).num ≡ pos 0 = ap (λ (a : Exact). a.num) (sym cell) ∙ c.is_zero.ensures c.if-is_zero.true in
    idle_line e c.args.pivot.now c.args.self.now c.requires.pivot c.requires.own c.requires.place c.requires.size zero

pub returns-then-is_zero-clause-fits : goal.returns-then-is_zero-clause-fits
returns-then-is_zero-clause-fits c = sym (idle c).0

pub returns-then-is_zero-clause-value : goal.returns-then-is_zero-clause-value
returns-then-is_zero-clause-value c = λ h. sym (idle c).1
