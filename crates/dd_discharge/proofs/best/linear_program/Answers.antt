use Rattle.std.proofs.Common.{◌≡◌, ◌<◌, ◌≤◌, ap, subst, sym, ◌∙◌, ◌++◌, ◌∷◌, [], List, arith, rules, ℕ, ℤ, pos, get_or, map, length, to_z}
use Rattle.std.proofs.lemmas.{Grind.elements, Int.ints, Int.to_z_pos, List.length-map}
use Rattle.std.specs.Int.{w64}
use Rattle.dd_simplex.specs.Programs.{cap_row, LinearProgram}
use Rattle.dd_fraction.specs.Exact.{Exact, whole_of}
use Rattle.dd_discharge.specs.Amounts.{row_in}
use Rattle.dd_rows.specs.declared.rows.Row.{Row}
use Rattle.dd_discharge.proofs.Tabulated.{row_is, first_program, next_program}
use Rattle.dd_simplex.specs.Programs as simplex
use Rattle.dd_discharge.proofs.best.linear_program.Goals as goal

abbrev of_rows : ℕ → List simplex.ProgramRow → LinearProgram
of_rows n rows = record { columns = n; rows = rows }

abbrev row_of : List Exact → Exact → simplex.ProgramRow
row_of cs b = record { coefficients = cs; bound = b }

pub loop-i-init : goal.loop-i-init
loop-i-init c =
    let rows = c.args.rows.now in
    let r = c.index-rows-0.result in
    let is = row_is rows 0 r c.requires.some c.index-rows-0.is in
    let small = c.requires.bounds 0 c.requires.some in
    let same = ap (λ (r : Row). r.bound) is in
    let cap : to_z w64 (get_or rows 0 r).bound ≡ pos r.bound = ap (λ (s : Row). to_z w64 s.bound) (sym c.index-rows-0.is) ∙ to_z_pos w64 r.bound (omega (arith, small, same)) in
    record {
      above = omega arith;
      program = c.in_ok-program.ensures ∙ (ap (λ (z : ℤ). of_rows c.args.columns (cap_row c.args.columns z ∷ [])) cap
          ∙ first_program rows c.args.columns r c.requires c.index-rows-0.is);
    }

pub overflow_cast-row : goal.overflow_cast-row
overflow_cast-row c =
    let is = row_is c.args.rows.now c.loop-i.i c.index-rows-i.result c.loop-i-test.true c.index-rows-i.is in
    let small = c.requires.bounds c.loop-i.i c.loop-i-test.true in
    let same = ap (λ (r : Row). r.bound) is in
    omega (arith, ints, small, same)

pub row-requires-clause-size : goal.row-requires-clause-size
row-requires-clause-size c =
    let is = row_is c.args.rows.now c.loop-i.i c.index-rows-i.result c.loop-i-test.true c.index-rows-i.is in
    let wide = ap (λ (p : LinearProgram). p.columns) c.loop-i.invariant.program in
    ap length c.in_ok-coefficients.ensures ∙ (length-map c.as_slice.result.now whole_of ∙ (ap length c.as_slice.ensures ∙ (ap (λ (r : Row). length r.coefficients) is ∙ (c.requires.sizes c.loop-i.i c.loop-i-test.true ∙ sym wide))))

pub loop-i-preserved : goal.loop-i-preserved
loop-i-preserved c =
    let rows = c.args.rows.now in
    let r = c.index-rows-i.result in
    let is = row_is rows c.loop-i.i r c.loop-i-test.true c.index-rows-i.is in
    let small = c.requires.bounds c.loop-i.i c.loop-i-test.true in
    let same = ap (λ (r : Row). r.bound) is in
    let cs = c.in_ok-coefficients.coefficients.items in
    let above = c.loop-i.invariant.above in
    record {
      above = omega (arith, above);
      program = c.in_ok-row.ensures.ok
          ∙ (ap (λ (b : Exact). of_rows c.loop-i.program.columns (c.loop-i.program.rows ++ row_of cs b ∷ [])) c.whole.ensures
          ∙ next_program rows c.args.columns c.loop-i.i r c.loop-i.program cs (to_z w64 r.bound) c.loop-i-test.true c.index-rows-i.is c.loop-i.invariant.program
          (c.in_ok-coefficients.ensures ∙ ap (map whole_of) c.as_slice.ensures) (to_z_pos w64 r.bound (omega (arith, small, same))));
    }

pub row-requires-clause-bound : goal.row-requires-clause-bound
row-requires-clause-bound c = grind (arith, elements)
