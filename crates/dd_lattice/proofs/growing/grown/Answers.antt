use Rattle.std.proofs.{Common.◌≡◌, Common.◌≤◌, Common.arith, lemmas.Result.err_from_is_err_and}
use Rattle.dd_lattice.proofs.GrowthLaws.{grown_x, grown_y, grown_z, fault_x, fault_y, fault_z}
use Rattle.dd_lattice.proofs.growing.grown.Goals as goal

pub returns-in_err-along_x : goal.returns-in_err-along_x
returns-in_err-along_x c =
    let p = err_from_is_err_and c.from_residual.result c.from_residual.ensures.1 in
    rw (p.1, p.2) (fault_x c.args.dim c.args.by c.args.region.now c.in_err-along_x.field-0.0 c.requires.least c.in_err-along_x.ensures)

pub returns-then-dim-eq1 : goal.returns-then-dim-eq1
returns-then-dim-eq1 c =
    let is : c.args.dim ≡ 1 = omega arith in
    rw is (grown_x c.args.by c.args.region.now c.in_ok-along_x.along_x c.in_ok-along_x.ensures)

pub returns-in_err-along_y : goal.returns-in_err-along_y
returns-in_err-along_y c =
    let p = err_from_is_err_and c.from_residual-in_err-along_y.result c.from_residual-in_err-along_y.ensures.1 in
    let more : 2 ≤ c.args.dim = omega arith in
    let x = grown_x c.args.by c.args.region.now c.in_ok-along_x.along_x c.in_ok-along_x.ensures in
    rw (p.1, p.2) (fault_y c.args.dim c.args.by c.args.region.now c.in_ok-along_x.along_x c.in_err-along_y.field-0.0 more x c.in_err-along_y.ensures)

pub returns-then-dim-eq2 : goal.returns-then-dim-eq2
returns-then-dim-eq2 c =
    let is : c.args.dim ≡ 2 = omega arith in
    let x = grown_x c.args.by c.args.region.now c.in_ok-along_x.along_x c.in_ok-along_x.ensures in
    rw is (grown_y c.args.by c.args.region.now c.in_ok-along_x.along_x c.in_ok-along_y.along_y x c.in_ok-along_y.ensures)

pub returns-in_err-along_z : goal.returns-in_err-along_z
returns-in_err-along_z c =
    let p = err_from_is_err_and c.from_residual-in_err-along_z.result c.from_residual-in_err-along_z.ensures.1 in
    let more : 3 ≤ c.args.dim = omega arith in
    let x = grown_x c.args.by c.args.region.now c.in_ok-along_x.along_x c.in_ok-along_x.ensures in
    let y = grown_y c.args.by c.args.region.now c.in_ok-along_x.along_x c.in_ok-along_y.along_y x c.in_ok-along_y.ensures in
    rw (p.1, p.2) (fault_z c.args.dim c.args.by c.args.region.now c.in_ok-along_y.along_y c.in_err-along_z.field-0.0 more y c.in_err-along_z.ensures)

pub returns : goal.returns
returns c =
    let is : c.args.dim ≡ 3 = omega arith in
    let x = grown_x c.args.by c.args.region.now c.in_ok-along_x.along_x c.in_ok-along_x.ensures in
    let y = grown_y c.args.by c.args.region.now c.in_ok-along_x.along_x c.in_ok-along_y.along_y x c.in_ok-along_y.ensures in
    rw is (grown_z c.args.by c.args.region.now c.in_ok-along_y.along_y c.in_ok-along_z.along_z y c.in_ok-along_z.ensures)
