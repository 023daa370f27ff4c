use Rattle.std.proofs.Common.{◌≡◌, ap, subst, sym, ◌∙◌, IfOk, ℕ, List, length, arith}
use Rattle.std.proofs.lemmas.{List.length-map, Result.IfOk-weaker}
use Rattle.dd_fraction.specs.Exact.{Exact, IsLowest}
use Rattle.dd_simplex.specs.Programs.{LinearProgram, IsBest}
use Rattle.dd_discharge.specs.{declared.bound.Bound.Bound, Amounts.IsCertifiedBound, Denominators.IsPrintedAs}
use Rattle.dd_discharge.specs.Bounds.{in_fractions, row_of_fractions}
use Rattle.dd_discharge.proofs.Certified.{certified}
use Rattle.dd_discharge.proofs.best.best_of.Goals as goal

pub returns-clause-certified : goal.returns-clause-certified
returns-clause-certified c =
    let rows = c.args.rows.now in
    let n = c.args.columns in
    let s = c.in_ok-solved.solved in
    let xs = c.as_slice.result.now in
    let ys = c.as_slice-2.result.now in
    let f = c.den-denominator.ensures.fraction in
    let lowest : IsLowest s.value = record { positive = f.above; coprime = f.coprime } in
    let best = subst (λ (p : LinearProgram). IsBest p s.value s.columns s.duals) c.in_ok-program.ensures c.in_ok-solved.ensures.best in
    IfOk-weaker c.bound_of.result (IsPrintedAs s.value xs ys) (IsCertifiedBound rows n)
    (λ b p. certified rows n s.value s.columns s.duals b lowest c.requires.wide best
    (subst (λ (zs : List Exact). IsPrintedAs s.value zs s.duals b) c.as_slice.ensures (subst (λ (zs : List Exact). IsPrintedAs s.value xs zs b) c.as_slice-2.ensures p)))
    c.bound_of.ensures.ok

pub bound_of-requires-clause-some_dual : goal.bound_of-requires-clause-some_dual
bound_of-requires-clause-some_dual c =
    let rows = c.args.rows.now in
    let s = c.in_ok-solved.solved in
    let best = subst (λ (p : LinearProgram). IsBest p s.value s.columns s.duals) c.in_ok-program.ensures c.in_ok-solved.ensures.best in
    let each : length s.duals ≡ length rows = best.dual.size ∙ length-map rows row_of_fractions in
    let taken : length c.as_slice-2.result.now ≡ length s.duals = ap length c.as_slice-2.ensures in
    let some = c.requires.some in
    omega (arith, taken, each, some)
