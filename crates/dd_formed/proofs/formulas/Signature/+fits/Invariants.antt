use Rattle.std.proofs.Common.{◌≡◌, ◌+◌, ◌<◌, ◌^◌, true, take}
use Rattle.std.specs.List.{All, list_all}
use Rattle.dd_expansion.specs.Limits.{formula_fits, depth}
use Rattle.dd_formed.proofs.formulas.Signature.+fits.Given as goal

abbrev pub invariant-all_fit-loop-part : goal.invariant-all_fit-loop-part
invariant-all_fit-loop-part l =
    All (λ f. l.scope + depth f < 2 ^ 32) l.parts → list_all (λ f. formula_fits l.self.topology.now l.self.symbols f l.scope) (take l.part-index l.parts) ≡ true
