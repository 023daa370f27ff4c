use Rattle.std.proofs.Common.{◌≡◌, ◌<◌, ◌≤◌, ℕ, List, length, arith, rules, ap, sym, ◌∙◌, subst}
use Rattle.std.specs.List.{All}
use Rattle.dd_pattern.specs.Weight.{AreWeights, total_weight}
use Rattle.dd_strip.specs.Strips.{cells}
use Rattle.dd_transfer.specs.Windows.{digits}
use Rattle.dd_transfer.proofs.{Digits.digits_length, Digits.digits_below, Sizes.cells_few}
use Rattle.dd_transfer.proofs.building.slice_weight.Goals as goal

written : (base b count n number : ℕ) (xs : List ℕ) → xs ≡ digits base count number → base ≡ b → count ≡ n → xs ≡ digits b n number
written base b count n number xs is p q = is ∙ (ap (λ (m : ℕ). digits m count number) p ∙ ap (λ (m : ℕ). digits b m number) q)

weights_of : (ws xs : List ℕ) (b n number : ℕ) → 0 < b → length ws ≡ b → All (λ w. w ≤ 1000) ws → xs ≡ digits b n number → AreWeights ws xs
weights_of ws xs b n number some each small is =
    record { known = subst (λ (ys : List ℕ). All (λ s. s < length ws) ys) (sym is) (subst (λ (m : ℕ). All (λ s. s < m) (digits b n number)) (sym each) (digits_below b n number some)); small = small }

pub weight_of-requires : goal.weight_of-requires
weight_of-requires c =
    let r = c.args.rule.now in
    let is = written c.symbols.result r.symbols _ (cells c.args.strip) c.args.slice c.write_digits.new.symbols c.write_digits.ensures c.symbols.ensures.value c.requires.cells in
    record {
      weights = weights_of c.args.weights.now c.write_digits.new.symbols r.symbols (cells c.args.strip) c.args.slice c.symbols.ensures.kept.symbols.0 c.requires.weights.each c.requires.weights.small is;
      few = (let len = digits_length r.symbols (cells c.args.strip) c.args.slice in let most = cells_few c.args.strip c.requires.strip.sized in omega (arith, ap length is, len, most));
    }

pub returns : goal.returns
returns c =
    let r = c.args.rule.now in
    let is = written c.symbols.result r.symbols _ (cells c.args.strip) c.args.slice c.write_digits.new.symbols c.write_digits.ensures c.symbols.ensures.value c.requires.cells in
    c.weight_of.ensures ∙ ap (total_weight c.args.weights.now) is
