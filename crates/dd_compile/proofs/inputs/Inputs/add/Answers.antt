use Rattle.std.proofs.Common.{◌≡◌, ◌++◌, ◌∷◌, [], ap, sym, subst, ◌∙◌, arith}
use Rattle.std.proofs.lemmas.Grind.{common_steps}
use Rattle.std.specs.{List.All, declared.cmp.Ordering.TheVariants.Less}
use Rattle.dd_lattice.specs.Order.{cell_cmp}
use Rattle.dd_compile.specs.{Wiring.Wiring, lemmas.WiringLaws.one_more}
use Rattle.dd_compile.proofs.inputs.Inputs.add.Goals as goal

pub invariant_of-self-2 : goal.invariant_of-self-2
invariant_of-self-2 c =
    let w : Wiring = record { cells = c.self.inside.cells.items; signals = c.self.inside.signals.items } in
    let before : All (λ d. cell_cmp d c.args.cell ≡ Less) w.cells =
    subst (λ (x : Wiring). All (λ d. cell_cmp d c.args.cell ≡ Less) x.cells) (sym c.self.view_is) c.requires in
    one_more w c.args.cell c.from_vec.result c.push-2.new.self.items c.push.new.self.items c.self.invariant before
    (c.in_ok-push-2.ensures.items ∙ ap (λ cs. cs ++ c.args.cell ∷ []) c.reserve.ensures.items) c.in_ok-push.ensures.items

pub invariant_of-self-in_err-push-2 : goal.invariant_of-self-in_err-push-2
invariant_of-self-in_err-push-2 c = grind (arith, common_steps)
