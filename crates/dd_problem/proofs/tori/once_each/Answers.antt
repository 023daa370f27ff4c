use Rattle.std.proofs.{Common.rules, lemmas.List.Filters.dedup_is}
use Rattle.std.specs.Cmp.Rules.{comparing}
use Rattle.dd_problem.proofs.OnceEach.{once_is}
use Rattle.dd_problem.proofs.tori.once_each.Goals as goal

pub returns : goal.returns
returns c =
    once_is c.args.cells.items c.sort_unstable.new.self.items c.dedup.new.self.items (dedup_is _ _ _ c.dedup.ensures.filtered) (λ x y. search (comparing, rules))
    c.sort_unstable.ensures.permutation c.sort_unstable.ensures.sorted
