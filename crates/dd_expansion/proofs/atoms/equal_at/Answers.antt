use Rattle.std.proofs.Common.{◌≡◌, refl, ap, sym, ◌∙◌, arith, map}
use Rattle.std.proofs.lemmas.{List.FromFn.map-range_with_len_more, Result.err_from_is_err_and}
use Rattle.std.specs.List.{range_with_len}
use Rattle.dd_expansion.specs.Expansion.{both_have}
use Rattle.dd_expansion.proofs.EqualSizes.{size_equal}
use Rattle.dd_expansion.specs.declared.expanded.Expanded.TheVariants as expanded
use Rattle.dd_expansion.proofs.atoms.equal_at.Goals as goal

pub returns-in_err-spend-2 : goal.returns-in_err-spend-2
returns-in_err-spend-2 c =
    let p = err_from_is_err_and c.from_residual-in_err-spend-2.result c.from_residual-in_err-spend-2.ensures.1 in
    let size = size_equal c.args.symbols c.args.first.now c.args.second.now in
    rw p.1 (λ _. omega (arith, size, c.in_ok-spend.ensures.ok, c.in_err-spend-2.ensures.few, c.loop-symbol.invariant.paid))

pub loop-symbol-preserved : goal.loop-symbol-preserved
loop-symbol-preserved c =
    let symbol = c.loop-symbol.symbol in
    let more = map-range_with_len_more (both_have c.args.first.now c.args.second.now) 0 symbol symbol (omega arith) in
    record {
      made = rw (c.in_ok-push.ensures.ok, c.loop-symbol.invariant.made, c.in_ok-part.ensures, more) refl;
      paid = omega (arith, c.in_ok-spend-2.ensures.ok, c.loop-symbol.invariant.paid);
    }

pub returns : goal.returns
returns c =
    let size = size_equal c.args.symbols c.args.first.now c.args.second.now in
    let same : c.loop-symbol.symbol ≡ c.args.symbols = omega arith in (
      ap expanded.Or (c.loop-symbol.invariant.made ∙ ap (λ n. map (both_have c.args.first.now c.args.second.now) (range_with_len 0 n)) same) ∙ sym (expanded.rolls-Or _),
      omega (arith, size, c.in_ok-spend.ensures.ok, c.loop-symbol.invariant.paid),
    )
