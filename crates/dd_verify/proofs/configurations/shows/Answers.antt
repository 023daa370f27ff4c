use Rattle.std.proofs.{Common.◌≡◌, Common.true, Common.sym, Common.subst, Common.◌∙◌, lemmas.Bool.false≢true, lemmas.Result.IfOk-weaker}
use Rattle.std.specs.Prelude.{◌↔◌}
use Rattle.dd_formula.specs.declared.automaton.Automaton.{Automaton}
use Rattle.dd_boxes.specs.{Goals.differ, Goals.AreOver, Goals.IsGoalFor, Views.numbers_of, Views.goal_of, Witnesses.IsWitness}
use Rattle.dd_automaton.specs.Images.{DifferAtOrigin}
use Rattle.dd_verify.proofs.{Deciding.nothing_holds, Differing.defined, Differing.difference_decides}
use Rattle.dd_verify.proofs.configurations.shows.Goals as goal

pub differ_at_origin-requires-clause-left : goal.differ_at_origin-requires-clause-left
differ_at_origin-requires-clause-left c =
    let x = c.args.premise.now in
    let over : AreOver x (numbers_of x) c.in-Differ.left.now c.in-Differ.right.now = subst (λ g. IsGoalFor x (goal_of x g)) c.in-Differ.is c.requires.goal in
    defined x c.args.periodic.now c.requires.fits c.in-Differ.left.now over.left

pub differ_at_origin-requires-clause-right : goal.differ_at_origin-requires-clause-right
differ_at_origin-requires-clause-right c =
    let x = c.args.premise.now in
    let over : AreOver x (numbers_of x) c.in-Differ.left.now c.in-Differ.right.now = subst (λ g. IsGoalFor x (goal_of x g)) c.in-Differ.is c.requires.goal in
    defined x c.args.periodic.now c.requires.fits c.in-Differ.right.now over.right

pub returns-then-not-inhabits : goal.returns-then-not-inhabits
returns-then-not-inhabits c = nothing_holds _ (λ w. false≢true (sym c.if-not-inhabits.true ∙ c.inhabits.ensures.1 (w.allowed, w.lives)))

pub returns-else-not-inhabits : goal.returns-else-not-inhabits
returns-else-not-inhabits c =
    let x = c.args.premise.now in
    let t = c.args.periodic.now in
    let f : Automaton = c.in-Differ.left.now in
    let g : Automaton = c.in-Differ.right.now in
    let both = c.inhabits.ensures.0 c.if-not-inhabits.false in
    rw c.in-Differ.is
    (IfOk-weaker c.differ_at_origin.result (λ b. (b ≡ true) ↔ DifferAtOrigin f g t) (λ b. (b ≡ true) ↔ IsWitness x (differ (numbers_of x) f g) t)
    (difference_decides x t c.requires.fits f g c.symbols-symbols.ensures.kept.tile both.0 both.1) c.differ_at_origin.ensures)

pub returns-in-Always : goal.returns-in-Always
returns-in-Always c =
    rw c.in-Always.is (
      λ h.
          (let both = c.inhabits-in-Always.ensures.0 h in
          record { tile = c.symbols-symbols.ensures.kept.tile; fits = c.requires.fits; allowed = both.0; lives = both.1; goal = tt }),
      λ w. c.inhabits-in-Always.ensures.1 (w.allowed, w.lives),
    )
