use Rattle.std.proofs.{Common.length, Common.subst, Common.sym, lemmas.Result.IfOk-weaker, lemmas.Result.IfErr-weaker}
use Rattle.dd_rows.specs.{Faults.OnLarge, listing.Shown.IsProgramShown, listing.Shown.IsLargeShown}
use Rattle.dd_rows.specs.listing.Repeats.{ShowsSame, HasKnown}
use Rattle.dd_rows.proofs.{Steps.on_large_weaker, RepeatLaws.program_same, RepeatLaws.large_same}
use Rattle.dd_rows.proofs.program.program_shown.Goals as goal

pub program_listed-requires-clause-known : goal.program_listed-requires-clause-known
program_listed-requires-clause-known c =
    subst (HasKnown c.args.fillings.now) (sym c.as_slice.ensures) c.in_ok-shown.ensures.known (length c.args.weights.now) c.requires.known

pub returns-clause-ok : goal.returns-clause-ok
returns-clause-ok c =
    let v = c.args.views.now in
    let ws = c.args.weights.now in
    let same = subst (ShowsSame v c.args.fillings.now) (sym c.as_slice.ensures) c.in_ok-shown.ensures.same in
    IfOk-weaker c.program_listed.result (IsProgramShown v ws c.args.heaviest c.as_slice.result.now) (IsProgramShown v ws c.args.heaviest c.args.fillings.now)
    (λ p is. program_same v ws c.args.heaviest c.args.fillings.now c.as_slice.result.now p same is) c.program_listed.ensures.ok

pub returns-clause-err : goal.returns-clause-err
returns-clause-err c =
    let v = c.args.views.now in
    let ws = c.args.weights.now in
    let most = c.args.heaviest in
    let lists = c.args.fillings.now in
    let shown = c.as_slice.result.now in
    let same = subst (ShowsSame v lists) (sym c.as_slice.ensures) c.in_ok-shown.ensures.same in
    IfErr-weaker c.program_listed.result (λ fault. OnLarge fault (IsLargeShown v ws most shown)) (λ fault. OnLarge fault (IsLargeShown v ws most lists))
    (λ fault large. on_large_weaker fault (IsLargeShown v ws most shown) (IsLargeShown v ws most lists) (large_same v ws most lists shown same) large) c.program_listed.ensures.err
