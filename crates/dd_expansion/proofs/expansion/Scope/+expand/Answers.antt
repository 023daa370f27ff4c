use Rattle.std.proofs.Common.{◌≡◌, ◌+◌, ◌*◌, ◌∷◌, ◌++◌, [], ◌<◌, ◌∙◌, ℕ, length, take, ap, sym, subst, refl, arith}
use Rattle.std.proofs.lemmas.{List.take_at, Result.err_from_is_err_and}
use denote.Param.Weighed.{at_most}
use Rattle.dd_lattice.specs.declared.position.Cell.{Cell}
use Rattle.dd_expansion.specs.{declared.expanded.Expanded.Expanded, declared.formulas.Formula.Formula, Leaves.instances}
use Rattle.dd_expansion.specs.{expanding.Near.AreNear, Expansion.expansion}
use Rattle.dd_expansion.specs.lemmas.Layers.{expansion_and, expansion_or, expansion_for_all, expansion_exists}
use Rattle.dd_expansion.specs.lemmas.Depths.{quantified_depth}
use Rattle.dd_expansion.proofs.formulas.Formula.TheLaws.{the_size}
use Rattle.dd_expansion.proofs.InstanceCounts.{size_and, size_or, size_for_all, size_exists, size_not, size_implies, size_iff, expansion_not, expansion_implies, expansion_iff}
use Rattle.dd_expansion.proofs.Parts.{part_fits, part_depth, quantified_fits, inner_is, inner_fits, inner_depth, inner_near, item_near, made_more, paid_more, paid_as, paid_after, few_at, few_for_all}
use Rattle.dd_expansion.specs.declared.expanded.Expanded.TheVariants as expanded
use Rattle.dd_expansion.proofs.expansion.Scope.+expand.Goals as goal

pub expand_all-expand-requires : goal.expand_all-expand-requires
expand_all-expand-requires t c =
    let formulas = c.args.formulas.now in
    let at = c.loop-formula.formula-index in
    let part = c.formula-item.result in
    let within : at < length formulas = omega arith in
    let below = at_most the_size formulas at part within in
    let size = ap the_size c.formula-item.is in
    let shallow = part_depth formulas at part within c.formula-item.is in (
      omega (arith, below, size, c.decreases),
      (
        part_fits c.args.self.now.topology.now c.args.self.now.symbols formulas (length c.args.self.now.env.now) at part c.requires.fits within c.formula-item.is,
        (omega (arith, shallow, c.requires.depth), c.requires.near),
      ),
    )

pub expand_all-returns-in_err-part : goal.expand_all-returns-in_err-part
expand_all-returns-in_err-part t c =
    let p = err_from_is_err_and c.from_residual-in_err-part.result c.from_residual-in_err-part.ensures.1 in
    let size : Formula → ℕ = λ f. instances (expansion c.args.self.now.topology.now.edges c.args.self.now.symbols f c.args.self.now.env.now) in
    rw (p.1, p.2)
    (λ few. few_for_all size c.args.formulas.now c.loop-formula.formula-index c.formula-item.result c.loop-formula.budget _ _ (omega arith) c.formula-item.is c.loop-formula.invariant.paid c.in_ok-spend.ensures.ok (c.in_err-part.ensures few))

pub expand_all-loop-formula-preserved : goal.expand_all-loop-formula-preserved
expand_all-loop-formula-preserved t c =
    let one : Formula → Expanded = λ f. expansion c.args.self.now.topology.now.edges c.args.self.now.symbols f c.args.self.now.env.now in
    let size : Formula → ℕ = λ f. instances (expansion c.args.self.now.topology.now.edges c.args.self.now.symbols f c.args.self.now.env.now) in
    let at = c.loop-formula.formula-index in
    let within : at < length c.args.formulas.now = omega arith in
    let part = c.in_ok-part.ensures in
    record {
      made = made_more one c.args.formulas.now at c.formula-item.result c.loop-formula.parts _ c.in_ok-part.part within c.formula-item.is c.loop-formula.invariant.made part.0 c.in_ok-push.ensures.ok;
      paid = paid_more size c.args.formulas.now at c.formula-item.result c.loop-formula.budget _ _ within c.formula-item.is c.loop-formula.invariant.paid part.1;
    }

pub expand-returns-in-And : goal.expand-returns-in-And
expand-returns-in-And t c =
    let es = c.args.self.now.topology.now.edges in
    let n = c.args.self.now.symbols in
    let env = c.args.self.now.env.now in
    let size = size_and es n env c.in-And.parts in
    let whole = expansion_and es n c.in-And.parts env in
    rw (c.in-And.is, size, whole, ← c.as_slice.ensures)
    (paid_as expanded.And _ _ _ _ c.expand_all.result c.conjunction.result c.conjunction.ensures.made c.conjunction.ensures.fault c.expand_all.ensures)

pub expand-returns-in-Or : goal.expand-returns-in-Or
expand-returns-in-Or t c =
    let es = c.args.self.now.topology.now.edges in
    let n = c.args.self.now.symbols in
    let env = c.args.self.now.env.now in
    let size = size_or es n env c.in-Or.parts in
    let whole = expansion_or es n c.in-Or.parts env in
    rw (c.in-Or.is, size, whole, ← c.as_slice-in-Or.ensures)
    (paid_as expanded.Or _ _ _ _ c.expand_all-in-Or.result c.disjunction.result c.disjunction.ensures.made c.disjunction.ensures.fault c.expand_all-in-Or.ensures)

pub expand-returns-in-ForAll : goal.expand-returns-in-ForAll
expand-returns-in-ForAll t c =
    let es = c.args.self.now.topology.now.edges in
    let n = c.args.self.now.symbols in
    let env = c.args.self.now.env.now in
    let size = size_for_all es n env c.in-ForAll.balls c.in-ForAll.body in
    let whole = expansion_for_all es n c.in-ForAll.balls c.in-ForAll.body env in
    rw (c.in-ForAll.is, size, whole, ← c.as_slice-in-ForAll.ensures)
    (paid_as expanded.And _ _ _ _ c.expand_over.result c.conjunction-in-ForAll.result c.conjunction-in-ForAll.ensures.made c.conjunction-in-ForAll.ensures.fault c.expand_over.ensures)

pub expand-returns-in-Exists : goal.expand-returns-in-Exists
expand-returns-in-Exists t c =
    let es = c.args.self.now.topology.now.edges in
    let n = c.args.self.now.symbols in
    let env = c.args.self.now.env.now in
    let size = size_exists es n env c.in-Exists.balls c.in-Exists.body in
    let whole = expansion_exists es n c.in-Exists.balls c.in-Exists.body env in
    rw (c.in-Exists.is, size, whole, ← c.as_slice-in-Exists.ensures)
    (paid_as expanded.Or _ _ _ _ c.expand_over-in-Exists.result c.disjunction-in-Exists.result c.disjunction-in-Exists.ensures.made c.disjunction-in-Exists.ensures.fault c.expand_over-in-Exists.ensures)

pub expand-returns-in_ok-one-in-Implies : goal.expand-returns-in_ok-one-in-Implies
expand-returns-in_ok-one-in-Implies t c =
    let es = c.args.self.now.topology.now.edges in
    let n = c.args.self.now.symbols in
    let env = c.args.self.now.env.now in
    let size = size_implies es n env c.in-Implies.premise c.in-Implies.conclusion in
    let whole = expansion_implies es n env c.in-Implies.premise c.in-Implies.conclusion in
    let one = c.in_ok-one-in-Implies.ensures in
    let last = rw c.get.ensures at c.expand.ensures in
    let joined = rw one.0 at (c.implication.ensures _ _ _ _ last) in
    rw (c.in-Implies.is, size, whole) (paid_after _ _ _ 2 _ _ _ c.in_ok-spend-in-Implies.ensures.ok (paid_after _ _ _ _ _ _ _ one.1 joined))

pub expand-returns-in_ok-one-in-Iff : goal.expand-returns-in_ok-one-in-Iff
expand-returns-in_ok-one-in-Iff t c =
    let es = c.args.self.now.topology.now.edges in
    let n = c.args.self.now.symbols in
    let env = c.args.self.now.env.now in
    let size = size_iff es n env c.in-Iff.first c.in-Iff.second in
    let whole = expansion_iff es n env c.in-Iff.first c.in-Iff.second in
    let one = c.in_ok-one-in-Iff.ensures in
    let joined = rw one.0 at (c.equivalence.ensures _ _ _ _ c.expand_boxed-in-Iff-2.ensures) in
    rw (c.in-Iff.is, size, whole) (paid_after _ _ _ 1 _ _ _ c.in_ok-spend-in-Iff.ensures.ok (paid_after _ _ _ _ _ _ _ one.1 joined))

pub expand_over-expand_each-requires : goal.expand_over-expand_each-requires
expand_over-expand_each-requires t c =
    let env = c.args.self.now.env.now in (
      omega (arith, c.decreases),
      (
        (quantified_fits c.args.self.now.topology.now c.args.self.now.symbols c.args.balls.now c.args.body.now (length env) c.requires.fits).1,
        (
          omega (arith, c.requires.depth, quantified_depth c.args.balls.now c.args.body.now),
          (c.requires.near, subst (AreNear (12 * (length env + 1))) (sym c.deref.ensures.value) c.in_ok-cells.ensures.near),
        ),
      ),
    )

pub expand_over-returns : goal.expand_over-returns
expand_over-returns t c =
    rw (← c.in_ok-cells.ensures.list, ← c.deref.ensures.value) (paid_after _ _ _ 1 _ _ c.expand_each.result c.in_ok-spend.ensures.ok c.expand_each.ensures)

pub expand_each-returns-in_err-part : goal.expand_each-returns-in_err-part
expand_each-returns-in_err-part t c =
    let p = err_from_is_err_and c.from_residual-in_err-part.result c.from_residual-in_err-part.ensures.1 in
    let body = c.args.body.now in
    let env = c.args.self.now.env.now in
    let cell = c.cell-item.result in
    let size : Cell → ℕ = λ d. instances (expansion c.args.self.now.topology.now.edges c.args.self.now.symbols body (env ++ d ∷ [])) in
    let scope = inner_is env c.loop-cell.inner.items c.push.new.self.items c.deref.result.now cell c.loop-cell.invariant.scope c.in_ok-push.ensures.items c.deref.ensures.value in
    let few = rw (c.get.ensures, scope) at c.in_err-part.ensures in
    let cells = c.args.cells.now in
    let within : c.loop-cell.cell-index < length cells = omega arith in
    rw (p.1, p.2)
    (λ fault. few_at size cells c.loop-cell.cell-index cell c.loop-cell.budget _ within c.cell-item.is c.loop-cell.invariant.paid (few fault))

pub expand_each-loop-cell-preserved : goal.expand_each-loop-cell-preserved
expand_each-loop-cell-preserved t c =
    let body = c.args.body.now in
    let env = c.args.self.now.env.now in
    let cell = c.cell-item.result in
    let one : Cell → Expanded = λ d. expansion c.args.self.now.topology.now.edges c.args.self.now.symbols body (env ++ d ∷ []) in
    let size : Cell → ℕ = λ d. instances (expansion c.args.self.now.topology.now.edges c.args.self.now.symbols body (env ++ d ∷ [])) in
    let pushed = c.in_ok-push.ensures.items ∙ ap (λ l. l ++ cell ∷ []) c.loop-cell.invariant.scope in
    let scope = inner_is env c.loop-cell.inner.items c.push.new.self.items c.deref.result.now cell c.loop-cell.invariant.scope c.in_ok-push.ensures.items c.deref.ensures.value in
    let made = rw (c.get.ensures, scope) at c.in_ok-part.ensures.0 in
    let paid = rw (c.get.ensures, scope) at c.in_ok-part.ensures.1 in
    let cells = c.args.cells.now in
    let at = c.loop-cell.cell-index in
    let within : at < length cells = omega arith in
    record {
      scope = c.truncate.ensures.items ∙ (ap (take (length env)) pushed ∙ take_at env (cell ∷ []) (length env) refl);
      made = made_more one cells at cell c.loop-cell.parts _ c.in_ok-part.part within c.cell-item.is c.loop-cell.invariant.made made c.in_ok-push-2.ensures.ok;
      paid = paid_more size cells at cell c.loop-cell.budget _ _ within c.cell-item.is c.loop-cell.invariant.paid paid;
    }

pub expand_each-expand-requires : goal.expand_each-expand-requires
expand_each-expand-requires t c =
    let env = c.args.self.now.env.now in
    let cell = c.cell-item.result in
    let body = c.get.result.now in
    let scope = inner_is env c.loop-cell.inner.items c.push.new.self.items c.deref.result.now cell c.loop-cell.invariant.scope c.in_ok-push.ensures.items c.deref.ensures.value in
    let here = item_near (12 * (length env + 1)) c.args.cells.now c.loop-cell.cell-index cell c.requires.cells (omega arith) c.cell-item.is in (
      omega (arith, ap the_size c.get.ensures, c.decreases),
      (
        inner_fits c.args.self.now.topology.now c.args.self.now.symbols c.args.body.now body env c.deref.result.now cell c.requires.fits c.get.ensures scope,
        (
          inner_depth c.args.body.now body env c.deref.result.now cell c.requires.depth c.get.ensures scope,
          inner_near env c.deref.result.now cell c.requires.near here scope,
        ),
      ),
    )

pub expand-returns-in-Not : goal.expand-returns-in-Not
expand-returns-in-Not t c =
    let es = c.args.self.now.topology.now.edges in
    let n = c.args.self.now.symbols in
    let env = c.args.self.now.env.now in
    let size = size_not es n env c.in-Not.inner in
    let whole = expansion_not es n env c.in-Not.inner in
    rw (c.in-Not.is, size, whole) c.expand_not.ensures

few_before : (before count first second whole : ℕ) → before < count → whole ≡ count + (first + second) → before < whole
few_before before count first second whole few is = omega arith

few_after : (before mid count first second whole : ℕ) → mid + count ≡ before → mid < first → whole ≡ count + (first + second) → before < whole
few_after before mid count first second whole spent few is = omega arith

pub expand-returns-in_err-spend-in-Implies : goal.expand-returns-in_err-spend-in-Implies
expand-returns-in_err-spend-in-Implies t c =
    let es = c.args.self.now.topology.now.edges in
    let n = c.args.self.now.symbols in
    let env = c.args.self.now.env.now in
    let p = err_from_is_err_and c.from_residual.result c.from_residual.ensures.1 in
    let size = size_implies es n env c.in-Implies.premise c.in-Implies.conclusion in
    rw (p.1, p.2, c.in-Implies.is) (λ few. few_before _ 2 _ _ _ c.in_err-spend-in-Implies.ensures.few size)

pub expand-returns-in_err-one-in-Implies : goal.expand-returns-in_err-one-in-Implies
expand-returns-in_err-one-in-Implies t c =
    let es = c.args.self.now.topology.now.edges in
    let n = c.args.self.now.symbols in
    let env = c.args.self.now.env.now in
    let p = err_from_is_err_and c.from_residual-in_err-one-in-Implies.result c.from_residual-in_err-one-in-Implies.ensures.1 in
    let size = size_implies es n env c.in-Implies.premise c.in-Implies.conclusion in
    rw (p.1, p.2, c.in-Implies.is) (λ few. few_after _ _ 2 _ _ _ c.in_ok-spend-in-Implies.ensures.ok (c.in_err-one-in-Implies.ensures few) size)

pub expand-returns-in_err-spend-in-Iff : goal.expand-returns-in_err-spend-in-Iff
expand-returns-in_err-spend-in-Iff t c =
    let es = c.args.self.now.topology.now.edges in
    let n = c.args.self.now.symbols in
    let env = c.args.self.now.env.now in
    let p = err_from_is_err_and c.from_residual-in_err-spend-in-Iff.result c.from_residual-in_err-spend-in-Iff.ensures.1 in
    let size = size_iff es n env c.in-Iff.first c.in-Iff.second in
    rw (p.1, p.2, c.in-Iff.is) (λ few. few_before _ 1 _ _ _ c.in_err-spend-in-Iff.ensures.few size)

pub expand-returns-in_err-one-in-Iff : goal.expand-returns-in_err-one-in-Iff
expand-returns-in_err-one-in-Iff t c =
    let es = c.args.self.now.topology.now.edges in
    let n = c.args.self.now.symbols in
    let env = c.args.self.now.env.now in
    let p = err_from_is_err_and c.from_residual-in_err-one-in-Iff.result c.from_residual-in_err-one-in-Iff.ensures.1 in
    let size = size_iff es n env c.in-Iff.first c.in-Iff.second in
    rw (p.1, p.2, c.in-Iff.is) (λ few. few_after _ _ 1 _ _ _ c.in_ok-spend-in-Iff.ensures.ok (c.in_err-one-in-Iff.ensures few) size)
