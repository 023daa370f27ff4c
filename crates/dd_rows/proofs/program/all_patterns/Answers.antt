use Rattle.std.proofs.Common.{◌≡◌, ◌+◌, ◌*◌, min, ◌∙◌, ap, length, arith}
use Rattle.std.specs.List.{flat_map}
use Rattle.dd_rows.specs.{Patterns.in_lexicographic_order, listing.Views.patterns_seen, listing.Views.with_patterns}
use Rattle.dd_rows.proofs.RowLaws.{patterns_next, patterns_grow, columns_large}
use Rattle.dd_rows.proofs.program.all_patterns.Goals as goal

pub returns-then-saturating_mul-ge-MOST_COLUMNS-clause-err : goal.returns-then-saturating_mul-ge-MOST_COLUMNS-clause-err
returns-then-saturating_mul-ge-MOST_COLUMNS-clause-err c =
    let v = c.args.views.now in
    let lists = c.args.fillings.now in
    let i = c.loop-symbols.symbols-index in
    let d = c.symbols-item.result in
    let now = c.add_patterns.new.patterns in
    let is : now ≡ with_patterns c.loop-symbols.patterns (patterns_seen v d) =
    c.in_ok-add_patterns.ensures ∙ ap (λ ss. with_patterns c.loop-symbols.patterns (patterns_seen v ss)) c.as_slice.ensures in
    let next = patterns_next (patterns_seen v) lists i d c.loop-symbols.patterns now c.loop-symbols-test.true c.loop-symbols.invariant.0 c.symbols-item.is is in
    let size = ap length next in
    let grow = patterns_grow (patterns_seen v) lists (i + 1) in
    let wide : c.len-vectors.result * c.len.result ≡ length v.givers * length now = ap (λ n. n * c.len.result) c.len-vectors.ensures ∙ ap (λ n. length v.givers * n) c.len.ensures in
    columns_large (length v.givers) (length now) (length (in_lexicographic_order (flat_map (patterns_seen v) lists))) c.saturating_mul.result
    (c.saturating_mul.ensures ∙ ap (λ n. min n 18446744073709551615) wide) c.if-saturating_mul-ge-MOST_COLUMNS.true (omega (arith, size, grow))
