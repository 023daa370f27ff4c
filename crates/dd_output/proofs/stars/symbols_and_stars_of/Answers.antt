use Rattle.std.proofs.Common.{◌≡◌, ◌++◌, ◌∷◌, [], Ok, length}
use Rattle.dd_output.specs.reading.{Stops.item, Stops.entries_at, Stars.symbol_or_star_entry}
use Rattle.dd_output.proofs.{Loops.goes_on, Starred.symbols_and_stars_unroll}
use Rattle.dd_output.proofs.stars.symbols_and_stars_of.Goals as goal

pub loop-symbols-smaller : goal.loop-symbols-smaller
loop-symbols-smaller c =
    let is : symbol_or_star_entry (length c.loop-symbols.symbols) c.loop-symbols.rest.now ≡ Ok (item c.in_ok-symbol.symbol, c.in_ok-symbol.after.now) =
    rw (← c.len.ensures) (rw c.if-is_last.false at c.in_ok-symbol.ensures) in
    symbols_and_stars_unroll.shorter (length c.loop-symbols.symbols) c.loop-symbols.rest.now c.in_ok-symbol.symbol c.in_ok-symbol.after.now is

pub loop-symbols-preserved : goal.loop-symbols-preserved
loop-symbols-preserved c =
    let is : symbol_or_star_entry (length c.loop-symbols.symbols) c.loop-symbols.rest.now ≡ Ok (item c.in_ok-symbol.symbol, c.in_ok-symbol.after.now) =
    rw (← c.len.ensures) (rw c.if-is_last.false at c.in_ok-symbol.ensures) in
    let pushed : c.push.new.self ≡ c.loop-symbols.symbols ++ c.in_ok-symbol.symbol ∷ [] = c.in_ok-push.ensures.ok in
    rw pushed (goes_on symbol_or_star_entry symbols_and_stars_unroll c.loop-symbols.symbols c.loop-symbols.rest.now c.in_ok-symbol.symbol c.in_ok-symbol.after.now
    (entries_at symbol_or_star_entry 0 c.args.bytes.now) is c.loop-symbols.invariant)
