use Rattle.std.proofs.{Common.◌≡◌, Common.◌≤◌, Common.ℤ, Common.◌-ℤ◌, Common.◌≤ℤ◌, Common.ap, Common.subst, Common.arith, lemmas.Int.ints}
use Rattle.std.specs.Prelude.{unsigned_abs}
use lib.Dec.{T}
use lib.Signed.{non_neg}
use mir.Syntax.{w32, w64}
use mir.Val.{to_z, of_z, Fits, SFits}
use Rattle.dd_lattice.specs.{Place.Place, Place.IsCoordinateInRange, Place.IsInRange, Boxes.gap}
use Rattle.dd_lattice.proofs.bounds.steps_between.Goals as goal

module _ (a b a' b' : ℤ) (a_near : IsCoordinateInRange a) (b_near : IsCoordinateInRange b) (a_is : a ≡ a') (b_is : b ≡ b') (up : a' ≤ℤ b') where
  difference_fits : SFits w32 (to_z w32 (of_z w32 b) -ℤ to_z w32 (of_z w32 a))
  difference_fits = omega (arith, ints)

  steps_fit : T (non_neg (to_z w32 (of_z w32 (to_z w32 (of_z w32 b) -ℤ to_z w32 (of_z w32 a))))) × Fits w64 (unsigned_abs (to_z w32 (of_z w32 (to_z w32 (of_z w32 b) -ℤ to_z w32 (of_z w32 a)))))
  steps_fit = (omega (arith, ints), omega (arith, ints))

  steps_are : unsigned_abs (to_z w32 (of_z w32 (to_z w32 (of_z w32 b) -ℤ to_z w32 (of_z w32 a)))) ≡ gap a' b'
  steps_are = omega (arith, ints)

  few_steps : unsigned_abs (to_z w32 (of_z w32 (to_z w32 (of_z w32 b) -ℤ to_z w32 (of_z w32 a)))) ≤ 2097152
  few_steps = omega (arith, ints)

pub overflow_sub-result : goal.overflow_sub-result
overflow_sub-result c = difference_fits c.from.inside.x c.to.inside.x c.args.from.now.x c.args.to.now.x c.from.invariant.0 c.to.invariant.0 (ap (λ (v : Place). v.x) c.from.view_is) (ap (λ (v : Place). v.x) c.to.view_is) c.requires.on_x

pub overflow_cast-result : goal.overflow_cast-result
overflow_cast-result c = steps_fit c.from.inside.x c.to.inside.x c.args.from.now.x c.args.to.now.x c.from.invariant.0 c.to.invariant.0 (ap (λ (v : Place). v.x) c.from.view_is) (ap (λ (v : Place). v.x) c.to.view_is) c.requires.on_x

pub returns-clause-x : goal.returns-clause-x
returns-clause-x c = steps_are c.from.inside.x c.to.inside.x c.args.from.now.x c.args.to.now.x c.from.invariant.0 c.to.invariant.0 (ap (λ (v : Place). v.x) c.from.view_is) (ap (λ (v : Place). v.x) c.to.view_is) c.requires.on_x

pub returns-clause-x_bound : goal.returns-clause-x_bound
returns-clause-x_bound c = few_steps c.from.inside.x c.to.inside.x c.args.from.now.x c.args.to.now.x c.from.invariant.0 c.to.invariant.0 (ap (λ (v : Place). v.x) c.from.view_is) (ap (λ (v : Place). v.x) c.to.view_is) c.requires.on_x

pub overflow_sub-result-2 : goal.overflow_sub-result-2
overflow_sub-result-2 c = difference_fits c.from.inside.y c.to.inside.y c.args.from.now.y c.args.to.now.y c.from.invariant.1 c.to.invariant.1 (ap (λ (v : Place). v.y) c.from.view_is) (ap (λ (v : Place). v.y) c.to.view_is) c.requires.on_y

pub overflow_cast-result-2 : goal.overflow_cast-result-2
overflow_cast-result-2 c = steps_fit c.from.inside.y c.to.inside.y c.args.from.now.y c.args.to.now.y c.from.invariant.1 c.to.invariant.1 (ap (λ (v : Place). v.y) c.from.view_is) (ap (λ (v : Place). v.y) c.to.view_is) c.requires.on_y

pub returns-clause-y : goal.returns-clause-y
returns-clause-y c = steps_are c.from.inside.y c.to.inside.y c.args.from.now.y c.args.to.now.y c.from.invariant.1 c.to.invariant.1 (ap (λ (v : Place). v.y) c.from.view_is) (ap (λ (v : Place). v.y) c.to.view_is) c.requires.on_y

pub returns-clause-y_bound : goal.returns-clause-y_bound
returns-clause-y_bound c = few_steps c.from.inside.y c.to.inside.y c.args.from.now.y c.args.to.now.y c.from.invariant.1 c.to.invariant.1 (ap (λ (v : Place). v.y) c.from.view_is) (ap (λ (v : Place). v.y) c.to.view_is) c.requires.on_y

pub overflow_sub-result-3 : goal.overflow_sub-result-3
overflow_sub-result-3 c = difference_fits c.from.inside.z c.to.inside.z c.args.from.now.z c.args.to.now.z c.from.invariant.2 c.to.invariant.2 (ap (λ (v : Place). v.z) c.from.view_is) (ap (λ (v : Place). v.z) c.to.view_is) c.requires.on_z

pub overflow_cast-result-3 : goal.overflow_cast-result-3
overflow_cast-result-3 c = steps_fit c.from.inside.z c.to.inside.z c.args.from.now.z c.args.to.now.z c.from.invariant.2 c.to.invariant.2 (ap (λ (v : Place). v.z) c.from.view_is) (ap (λ (v : Place). v.z) c.to.view_is) c.requires.on_z

pub returns-clause-z : goal.returns-clause-z
returns-clause-z c = steps_are c.from.inside.z c.to.inside.z c.args.from.now.z c.args.to.now.z c.from.invariant.2 c.to.invariant.2 (ap (λ (v : Place). v.z) c.from.view_is) (ap (λ (v : Place). v.z) c.to.view_is) c.requires.on_z

pub returns-clause-z_bound : goal.returns-clause-z_bound
returns-clause-z_bound c = few_steps c.from.inside.z c.to.inside.z c.args.from.now.z c.args.to.now.z c.from.invariant.2 c.to.invariant.2 (ap (λ (v : Place). v.z) c.from.view_is) (ap (λ (v : Place). v.z) c.to.view_is) c.requires.on_z

pub returns-clause-from : goal.returns-clause-from
returns-clause-from c = subst IsInRange c.from.view_is c.from.invariant

pub returns-clause-to : goal.returns-clause-to
returns-clause-to c = subst IsInRange c.to.view_is c.to.invariant
