use Rattle.std.proofs.Common.{◌≡◌, ◌+◌, ◌∷◌, ◌++◌, [], take, map}
use Rattle.std.specs.List.{sum_by}
use Rattle.dd_expansion.specs.{Leaves.instances, Expansion.expansion}
use Rattle.dd_expansion.proofs.expansion.Scope.+expand.Given as goal

abbrev pub invariant-expand_all-loop-formula : goal.invariant-expand_all-loop-formula
invariant-expand_all-loop-formula l = record {
  made : l.parts ≡ map (λ f. expansion l.self.topology.now.edges l.self.symbols f l.self.env.now) (take l.formula-index l.formulas);
  paid : l.budget + sum_by (λ f. instances (expansion l.self.topology.now.edges l.self.symbols f l.self.env.now)) (take l.formula-index l.formulas) ≡ l.initial.budget;
}

abbrev pub invariant-expand_each-loop-cell : goal.invariant-expand_each-loop-cell
invariant-expand_each-loop-cell l = record {
  scope : l.inner.items ≡ l.self.env.now;
  made : l.parts ≡ map (λ c. expansion l.self.topology.now.edges l.self.symbols l.body (l.self.env.now ++ c ∷ [])) (take l.cell-index l.cells);
  paid : l.budget + sum_by (λ c. instances (expansion l.self.topology.now.edges l.self.symbols l.body (l.self.env.now ++ c ∷ []))) (take l.cell-index l.cells) ≡ l.initial.budget;
}
