use Rattle.std.proofs.Common.{◌≡◌, length, rules, ap, ◌∙◌}
use Rattle.dd_transfer.specs.Windows.{Shown, window_cells}
use Rattle.dd_transfer.proofs.Written.{written}
use Rattle.dd_transfer.proofs.building.first_window.Goals as goal

pub returns : goal.returns
returns c =
    let size : length c.in_ok-blank.blank.items ≡ window_cells c.args.rule.now c.args.strip = search rules in
    written c.args.rule.now c.args.strip c.new-window.result c.write.new.self c.symbols.result 0 (ap (λ (w : Shown). w.strip) c.new-window.ensures)
    (ap (λ (w : Shown). length w.symbols) c.new-window.ensures ∙ size) c.symbols.ensures.value c.write.ensures
