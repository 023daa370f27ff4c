-- Each period of a torus, and each of the products that the code computes on the way to the number of the torus's cells, is at most 65536. Periods of
-- at most 8 are periods that a torus may have.
use Rattle.std.proofs.{Common.ℕ, Common.◌*◌, Common.◌≤◌, Common.arith, lemmas.Nat.mul-le}
use Rattle.dd_pattern.specs.declared.periods.Periods.{Periods}
use Rattle.dd_formula.specs.LocalRule.{LocalRule, IsRule}
use Rattle.dd_boxes.specs.{Witnesses.ArePeriods, TorusPeriods.AreTorusPeriods}

product_small : (a b c n : ℕ) → a ≤ 8 → b ≤ 8 → c ≤ 8 → n ≤ 4 → a * b * c * n ≤ 65536
product_small a b c n ha hb hc hn =
    let first : a * b ≤ 64 = mul-le a b 8 8 ha hb in
    let second : a * b * c ≤ 512 = mul-le (a * b) c 64 8 first hc in
    let third : a * b * c * n ≤ 2048 = mul-le (a * b * c) n 512 4 second hn in
    omega arith

-- periods that are within the limit of 8 are periods that a torus may have
pub small_periods : (x : LocalRule) (p : Periods) → IsRule x → ArePeriods x.dimension p → AreTorusPeriods x.dimension x.nodes p
small_periods x p rule ok = record { periods = ok.periods; few = product_small p.z p.y p.x x.nodes ok.z_most ok.y_most ok.x_most rule.nodes.1 }

pub record AreSizes (x : LocalRule) (p : Periods) : Type 0 where
  pub x_most : p.x ≤ 65536
  pub y_most : p.y ≤ 65536
  pub z_most : p.z ≤ 65536
  pub zy_most : p.z * p.y ≤ 65536
  pub zyx_most : p.z * p.y * p.x ≤ 65536
  pub all_most : p.z * p.y * p.x * x.nodes ≤ 65536

pub torus_sizes : (x : LocalRule) (p : Periods) → IsRule x → AreTorusPeriods x.dimension x.nodes p → AreSizes x p
torus_sizes x p rule ok =
    let few : p.z * p.y * p.x * x.nodes ≤ 65536 = ok.few in
    let zyx : p.z * p.y * p.x * 1 ≤ p.z * p.y * p.x * x.nodes = mul-le (p.z * p.y * p.x) 1 (p.z * p.y * p.x) x.nodes (omega arith) rule.nodes.0 in
    let zy : p.z * p.y * 1 ≤ p.z * p.y * p.x = mul-le (p.z * p.y) 1 (p.z * p.y) p.x (omega arith) ok.periods.x_some in
    let one : 1 * 1 ≤ p.z * p.y = mul-le 1 1 p.z p.y ok.periods.z_some ok.periods.y_some in
    let on_x : 1 * p.x ≤ p.z * p.y * p.x = mul-le 1 p.x (p.z * p.y) p.x (omega (arith, one)) (omega arith) in
    let on_y : 1 * p.y ≤ p.z * p.y = mul-le 1 p.y p.z p.y ok.periods.z_some (omega arith) in
    let on_z : p.z * 1 ≤ p.z * p.y = mul-le p.z 1 p.z p.y (omega arith) ok.periods.y_some in
    record {
      x_most = omega (arith, few, zyx, on_x);
      y_most = omega (arith, few, zyx, zy, on_y);
      z_most = omega (arith, few, zyx, zy, on_z);
      zy_most = omega (arith, few, zyx, zy);
      zyx_most = omega (arith, few, zyx);
      all_most = few;
    }
