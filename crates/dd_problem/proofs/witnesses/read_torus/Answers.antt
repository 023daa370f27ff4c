use Rattle.std.proofs.Common.{◌≡◌, ◌*◌, ap, ◌∙◌, arith, sym, subst}
use Rattle.dd_values.specs.Variables.{true_variables}
use Rattle.dd_pattern.specs.{Periods.periods_of, Periods.periods_volume, Tile.Tile, Tile.tile}
use Rattle.dd_problem.specs.{Symbols.AreRead, lemmas.TorusSizes.torus_sizes}
use Rattle.dd_problem.proofs.TorusCalls.{count_fits}
use Rattle.dd_problem.proofs.SymbolsRead.{one_each_there, made_is, read_made, read_only, read_there}
use Rattle.dd_problem.proofs.witnesses.read_torus.Goals as goal

pub overflow_mul-count-3 : goal.overflow_mul-count-3
overflow_mul-count-3 c =
    let all = count_fits c.args.premise.now (periods_of c.args.periods c.args.shear) c.nodes-nodes.ensures.kept c.requires.periods c.nodes-nodes.result c.nodes-nodes.ensures.value in
    omega (arith, all)

pub symbols_read-requires : goal.symbols_read-requires
symbols_read-requires c =
    let p = periods_of c.args.periods c.args.shear in
    one_each_there c.values.result.now c.args.found.now c.symbols.result c.args.premise.now.symbols (periods_volume p * c.nodes-nodes.result)
    (periods_volume p * c.args.premise.now.nodes) c.values.ensures c.symbols.ensures.value
    (ap (λ k. periods_volume p * k) c.nodes-nodes.ensures.value) c.requires.one_each

pub unwrap-requires : goal.unwrap-requires
unwrap-requires c =
    c.ok.ensures.variant
    ∙ read_made c.args.premise.now (periods_of c.args.periods c.args.shear) c.nodes-nodes.ensures.kept c.requires.periods c.new.result (λ back. back ≡ c.in_ok-symbols.symbols) c.dim.result c.nodes-nodes.result
    c.in_ok-symbols.symbols.items c.dim.ensures c.nodes-nodes.ensures.value c.in_ok-symbols.ensures.0 c.new.ensures

pub returns-clause-read : goal.returns-clause-read
returns-clause-read c =
    let t = made_is c.new.result c.ok.result c.unwrap.result (tile c.dim.result (periods_of c.args.periods c.args.shear) c.nodes-nodes.result c.in_ok-symbols.symbols.items) (λ back. back ≡ c.in_ok-symbols.symbols)
    c.new.ensures c.ok.ensures.value c.unwrap.ensures in
    let p = periods_of c.args.periods c.args.shear in
    subst (λ (v : Tile). AreRead (true_variables c.args.found.now) c.args.premise.now.symbols v.symbols) (sym t)
    (read_there c.values.result.now c.args.found.now c.symbols.result c.args.premise.now.symbols (periods_volume p * c.nodes-nodes.result)
    c.in_ok-symbols.symbols.items c.values.ensures c.symbols.ensures.value c.in_ok-symbols.ensures)

pub returns-clause-only : goal.returns-clause-only
returns-clause-only c = λ u periods fits read same.
    let t = made_is c.new.result c.ok.result c.unwrap.result (tile c.dim.result (periods_of c.args.periods c.args.shear) c.nodes-nodes.result c.in_ok-symbols.symbols.items) (λ back. back ≡ c.in_ok-symbols.symbols)
    c.new.ensures c.ok.ensures.value c.unwrap.ensures in
    let p = periods_of c.args.periods c.args.shear in
    read_only c.args.premise.now (periods_of c.args.periods c.args.shear) c.nodes-nodes.ensures.kept c.requires.periods (true_variables c.args.found.now) c.dim.result c.nodes-nodes.result
    c.in_ok-symbols.symbols.items c.unwrap.result u c.dim.ensures c.nodes-nodes.ensures.value t
    (read_there c.values.result.now c.args.found.now c.symbols.result c.args.premise.now.symbols (periods_volume p * c.nodes-nodes.result)
    c.in_ok-symbols.symbols.items c.values.ensures c.symbols.ensures.value c.in_ok-symbols.ensures)
    periods fits read same

pub overflow_mul-count-2 : goal.overflow_mul-count-2
overflow_mul-count-2 c =
    let all = (torus_sizes c.args.premise.now (periods_of c.args.periods c.args.shear) c.nodes-nodes.ensures.kept c.requires.periods).zyx_most in
    omega (arith, all)

pub overflow_mul-count : goal.overflow_mul-count
overflow_mul-count c =
    let all = (torus_sizes c.args.premise.now (periods_of c.args.periods c.args.shear) c.nodes-nodes.ensures.kept c.requires.periods).zy_most in
    omega (arith, all)
