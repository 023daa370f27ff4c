-- The law of one box.
use Rattle.std.proofs.Common.{◌≡◌, ℕ, ◌≤◌, Bool, true, false, ℤ, pos, ◌≤ℤ◌, ◌-ℤ◌, arith}
use Rattle.std.proofs.lemmas.{Int.ints, Bool.and_from, Bool.leb-true, Bool.le-leb}
use Rattle.std.specs.Prelude.{◌↔◌, unsigned_abs}
use Rattle.dd_lattice.specs.{Place.Place, Boxes.IsCentred, Boxes.IsUpTo, Boxes.OnAxis, Boxes.is_active, Boxes.spread}
use Rattle.dd_formula.specs.LocalRule.{LocalRule}
use Rattle.dd_boxes.specs.{Goals.GoalOf, Fillings.is_up_to, Fillings.in_box, Laws.OneBox, lemmas.CutLaws.box_parts}
use Rattle.dd_boxes.specs.lemmas.FromBox.{holds_nowhere, suffices_more, from_least}

axis_from_test : (active : Bool) (n : ℕ) (c : ℤ) → is_up_to (spread active n) c ≡ true → OnAxis active (IsUpTo n) c
axis_from_test true n c h = let small : unsigned_abs c ≤ n = leb-true _ _ h in record { low = omega (arith, ints); high = omega (arith, ints) }
axis_from_test false n c h = let small : unsigned_abs c ≤ 0 = leb-true _ _ h in omega (arith, ints)

test_from_axis : (active : Bool) (n : ℕ) (c : ℤ) → OnAxis active (IsUpTo n) c → is_up_to (spread active n) c ≡ true
test_from_axis true n c h = let low : (pos 0 -ℤ pos n) ≤ℤ c = h.low in let high : c ≤ℤ pos n = h.high in le-leb _ _ (omega (arith, ints))
test_from_axis false n c h = le-leb _ _ (omega (arith, ints, h))

pub box_is_centred : (d n : ℕ) (p : Place) → (in_box d n p ≡ true) ↔ IsCentred d n p
box_is_centred d n p = (
  λ h. (let parts = box_parts d n p h in
      record {
        on_x = axis_from_test (is_active d 0) n p.x parts.0;
        on_y = axis_from_test (is_active d 1) n p.y parts.1;
        on_z = axis_from_test (is_active d 2) n p.z parts.2;
      }),
  λ h. and_from _ _ (and_from _ _ (test_from_axis (is_active d 0) n p.x h.on_x) (test_from_axis (is_active d 1) n p.y h.on_y)) (test_from_axis (is_active d 2) n p.z h.on_z),
)

pub one_box_law : (x : LocalRule) (g : GoalOf) (n : ℕ) → OneBox x g n
one_box_law x g n = record {
  positions = box_is_centred x.dimension n;
  radius = λ least is. (is.least n, from_least g least n is);
  larger = λ ok reach suffices m le. suffices_more x g n m ok reach le suffices;
  nowhere = holds_nowhere x g n;
}
