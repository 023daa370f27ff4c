use Rattle.std.proofs.{Common.◌≡◌, Common.ap, Common.sym, Common.◌∙◌, Common.subst, Common.arith, lemmas.Result.IfOk-weaker}
use Rattle.dd_formula.specs.{Automata.IsNodesOf, Reach.automaton_reach, declared.automaton.Automaton.Automaton}
use Rattle.dd_formula.specs.lemmas.FarthestLaws.{bare_reach}
use Rattle.dd_formula.proofs.automaton.Automaton.reach.Goals as goal

pub reach_at-requires : goal.reach_at-requires
reach_at-requires c =
    let s = c.requires.0 in
    let ok = c.requires.1 in
    let nodes = subst (IsNodesOf c.args.self.now) c.in-Some.is c.nodes.ensures in
    let same : s.nodes ≡ c.in-Some.nodes = nodes s ok.fits in
    record { setting = s; formed = ok; few = omega (arith, same) }

pub returns-in-Some : goal.returns-in-Some
returns-in-Some c =
    let f : Automaton = c.args.self.now in
    let nodes = subst (IsNodesOf f) c.in-Some.is c.nodes.ensures in
    record {
      value = IfOk-weaker c.reach_at.result _ _ (λ n is s ok. is ∙ ap (λ k. automaton_reach k f) (sym (nodes s ok.fits))) c.reach_at.ensures.value;
      near = c.reach_at.ensures.near;
    }

pub returns-in-None : goal.returns-in-None
returns-in-None c =
    let f : Automaton = c.args.self.now in
    let none = subst (IsNodesOf f) c.in-None.is c.nodes.ensures in
    record { value = λ s ok. sym (bare_reach f s.nodes none); near = omega arith }
