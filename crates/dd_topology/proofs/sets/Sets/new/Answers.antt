use Rattle.std.proofs.Common.{◌≡◌, ◌*◌, true, replicate, length, ap, sym, ◌∙◌, subst}
use Rattle.std.proofs.lemmas.List.{length-replicate}
use Rattle.dd_topology.specs.{Sets.symbol_sets, Sets.all_symbols, Sets.IsSets, keeping.Kept.in_rows}
use Rattle.dd_topology.proofs.SetLaws.{rows-replicate, all_are_sets}
use Rattle.dd_topology.proofs.sets.Sets.new.Goals as goal

module _ (c : goal.In_ok-vec) where
  all_true : c.in_ok-vec.field-0.items ≡ replicate (c.args.nodes * c.args.symbols) true
  all_true = c.in_ok-vec.ensures.items_if_clones_equal (λ y same. same)

  rows : symbol_sets c.args.symbols (in_rows c.args.nodes c.args.symbols c.in_ok-vec.field-0.items) ≡ all_symbols c.args.nodes c.args.symbols
  rows = rw all_true (ap (symbol_sets c.args.symbols) (rows-replicate c.args.nodes c.args.symbols true))

  sets : IsSets c.args.nodes (symbol_sets c.args.symbols (in_rows c.args.nodes c.args.symbols c.in_ok-vec.field-0.items))
  sets = subst (IsSets c.args.nodes) (sym rows) (all_are_sets c.args.nodes c.args.symbols c.requires.symbols)

pub invariant_of-result : goal.invariant_of-result
invariant_of-result c = (sets c, ap length (all_true c) ∙ length-replicate (c.args.nodes * c.args.symbols) true)

pub returns-clause-sets : goal.returns-clause-sets
returns-clause-sets c = rows c

pub returns-clause-kept : goal.returns-clause-kept
returns-clause-kept c = sets c
