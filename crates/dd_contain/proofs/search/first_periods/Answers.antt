use Rattle.std.proofs.{Common.ℕ, Common.List, Common.length, Common.subst, Common.Contains, lemmas.Result.IfOk-weaker}
use Rattle.std.specs.{Prelude.Option, Prelude.Some, Prelude.None, Prelude.MatchOption, List.Sorted.IsStrictlySortedBy}
use Rattle.dd_pattern.specs.{declared.periods.Periods.Periods, Periods.periods_cmp, Periods.AreAllWithin, Tile.Tile}
use Rattle.dd_contain.specs.{declared.search.Shown.Shown, Decided.NoneWithin, Decided.IsFirst}
use Rattle.dd_contain.specs.searching.Listed.{NoneBefore, IsFirstOf}
use Rattle.dd_contain.proofs.OrderLaws.{first_from, none_from}
use Rattle.dd_contain.proofs.search.first_periods.Goals as goal

pub first_listed-requires : goal.first_listed-requires
first_listed-requires g c =
    λ p there. c.requires p ((c.in_ok-all.ensures.members p).0 (subst (λ (l : List Periods). Contains l p) c.deref.ensures.value there))

module _ (T : Periods → Type 0) (D : Periods → Tile → Type 0) (d most : ℕ) (ps : List Periods) (ascending : IsStrictlySortedBy periods_cmp ps)
    (all : AreAllWithin d most ps) where
  abbrev Listed : Option Shown → Type 0
  Listed found = MatchOption found (NoneBefore T ps (length ps)) (λ shown. IsFirstOf T ps shown.at × D shown.at shown.periodic)

  abbrev Found : Option Shown → Type 0
  Found found = MatchOption found (NoneWithin T d most) (λ shown. IsFirst T d most shown.at × D shown.at shown.periodic)

  found_from : (found : Option Shown) → Listed found → Found found
  found_from None none = none_from T d most ps ascending all none
  found_from (Some shown) first = (first_from T d most ps ascending all shown.at first.0, first.1)

pub returns-clause-found : goal.returns-clause-found
returns-clause-found g c =
    let T = g.Q.Questions.shows c.args.questions.now in
    let D = g.Q.Questions.displays c.args.questions.now in
    let ps = c.deref.result.now in
    let is = c.deref.ensures.value in
    let told = rw is at c.first_listed.ensures.found in
    IfOk-weaker c.first_listed.result (Listed T D c.args.dim c.args.most c.in_ok-all.all.items c.in_ok-all.ensures.ascending c.in_ok-all.ensures.members)
    (Found T D c.args.dim c.args.most c.in_ok-all.all.items c.in_ok-all.ensures.ascending c.in_ok-all.ensures.members)
    (found_from T D c.args.dim c.args.most c.in_ok-all.all.items c.in_ok-all.ensures.ascending c.in_ok-all.ensures.members) told
