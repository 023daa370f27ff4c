-- Which answers about the least weight on a torus are certificates, and what they claim. The least weight on a torus is the least weight of the
-- fundamental box (the box that repeats), over the configurations of allowed symbols with given periods and no shear that live in the rule's
-- subshift. The box weighs as much as its symbols together. `along` lists the periods, and `ws` the weights of the symbols.
use Rattle.std.specs.Prelude.{ℕ, ◌≡◌, ◌<◌, List}
use Rattle.dd_pattern.specs.{Periods.periods_of, Tile.Tile, Tile.tile, Weight.total_weight}
use Rattle.dd_formula.specs.LocalRule.{LocalRule}
use Rattle.dd_derivation.specs.{declared.step.Step.Step, Derivations.IsRefuting}
use Rattle.dd_boxes.specs.{Goals.always, Witnesses.IsWitness}
use Rattle.dd_counter.specs.{Weights.weight_problem, Least.LeastOn, Least.NoneOn}
use Rattle.dd_certificate.specs.declared.answer.Answer.{Answer}
use Rattle.dd_certificate.specs.declared.answer.Answer.TheVariants as answer

-- the configuration with these periods, no shear and these symbols
abbrev pub torus_tile : LocalRule → List ℕ → List ℕ → Tile
torus_tile x along symbols = tile x.dimension (periods_of along 0) x.nodes symbols

-- the symbols are allowed, the configuration with these periods and symbols lives in the rule's subshift, and its fundamental box weighs w
pub record HasWeight (x : LocalRule) (along ws : List ℕ) (w : ℕ) (symbols : List ℕ) : Type 0 where
  pub lives : IsWitness x always (torus_tile x along symbols)
  pub weighs : total_weight ws symbols ≡ w

-- The steps refute the clauses that ask for a configuration of allowed symbols which has these periods and no shear, lives in the rule's subshift and
-- weighs less than w. For w = 0 there is nothing to refute.
abbrev pub IsBoundedBy : LocalRule → List ℕ → List ℕ → ℕ → List Step → Type 0
IsBoundedBy x along ws w steps = 0 < w → IsRefuting (weight_problem x (periods_of along 0) ws w) steps

-- A certificate has a configuration in the rule's subshift and, unless its weight is 0, steps which show that none weighs less. Or it has steps which
-- show that there is no configuration in the rule's subshift. All configurations here have allowed symbols, these periods and no shear.
pub data IsTorusCertificate (x : LocalRule) (along ws : List ℕ) : Answer → Type 0 where
  torus_least : {w : ℕ} {symbols : List ℕ} {steps : List Step} → HasWeight x along ws w symbols → IsBoundedBy x along ws w steps →
      IsTorusCertificate x along ws (answer.Least w symbols steps)
  torus_none : {steps : List Step} → IsRefuting (weight_problem x (periods_of along 0) ws 0) steps → IsTorusCertificate x along ws (answer.Nothing steps)

-- What an answer claims of all configurations of allowed symbols with these periods and no shear that live in the rule's subshift. LEAST claims that
-- w is the least of their weights, and NONE that there are no such configurations.
pub data TorusClaim (x : LocalRule) (along ws : List ℕ) : Answer → Type 0 where
  claims_least_on : {w : ℕ} {symbols : List ℕ} {steps : List Step} → LeastOn x (periods_of along 0) ws w → TorusClaim x along ws (answer.Least w symbols steps)
  claims_none_on : {steps : List Step} → NoneOn x (periods_of along 0) → TorusClaim x along ws (answer.Nothing steps)
