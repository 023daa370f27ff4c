use Rattle.std.proofs.Common.{◌<◌, ◌∙◌, ap, sym, length, subst}
use Rattle.std.specs.List.{All}
use Rattle.dd_pattern.specs.Weight.{total_weight}
use Rattle.dd_rows.specs.listing.Views.{symbols_at}
use Rattle.dd_rows.proofs.SparseLaws.{seen_known, row_stands}
use Rattle.dd_rows.proofs.program.required_row.Goals as goal

pub weight_of-requires-clause-weights : goal.weight_of-requires-clause-weights
weight_of-requires-clause-weights c =
    let ws = c.args.weights.now in
    let ss = c.args.symbols.now in
    record {
      known = subst (All (λ s. s < length ws)) (sym (c.symbols.ensures ∙ c.in_ok-read.ensures)) (seen_known (length ws) ss c.as_slice.result.now c.requires.known c.requires.some);
      small = c.requires.small;
    }

pub returns-clause-row : goal.returns-clause-row
returns-clause-row c =
    let ws = c.args.weights.now in
    let ss = c.args.symbols.now in
    row_stands c.args.patterns.now c.args.views.now ws ss c.new.result (c.new.ensures.exchanges ∙ c.in_ok-list.ensures)
    (c.new.ensures.bound ∙ (c.weight_of.ensures ∙ ap (total_weight ws) (c.symbols.ensures ∙ (c.in_ok-read.ensures ∙ ap (symbols_at ss) c.as_slice.ensures))))
