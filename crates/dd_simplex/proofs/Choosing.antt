-- A choice among the first n places; the order by ratio and, if the ratios are equal, by variable; and the steps of the loop that chooses the line
-- whose variable leaves.
use Rattle.std.proofs.Common.{◌≡◌, ◌≢◌, ℕ, ◌+◌, ◌≤◌, List, Option, Some, None, Bool, true, false, ◌&&◌, ◌||◌, ⊎_elim, sym, ap, subst, ◌∙◌, arith}
use Rattle.std.proofs.lemmas.{Int.ints, Bool.cases_eq}
use Rattle.std.specs.{Bool.nat_lt, Int.RustNames.int_lt, Ordering.is_lt, Ordering.is_eq, declared.cmp.Ordering.Ordering}
use Rattle.std.specs.declared.cmp.Ordering.TheVariants.{Less, Equal, Greater}
use lib.IntN.{ℤ, pos}
use lib.Signed.{le_z}
use Rattle.dd_fraction.specs.{Exact.Exact, Exact.inverse, Checked.does_product_fit, Order.IsAtMost, Order.IsBelow, Order.exact_cmp}
use Rattle.dd_fraction.specs.lemmas.OrderLaws.{at_most_refl, at_most_trans, at_most_below, below_or_at_most, below_not_at_most, at_most_antisymm, exact_cmp-below, exact_cmp-above, exact_cmp-same}
use Rattle.dd_simplex.specs.{Programs.fraction_at, table.Lines.Line, table.Lines.line_at}
use Rattle.dd_simplex.specs.table.Choices.{IsChosen, does_precede, Precedes, LeavesBefore, DoRatiosFit, IsRatioOf, does_limit, line_ratio}

true_false : true ≡ false → ⊥
true_false e = absurd cc

-- ---- from the first n places to one more
pub chosen_stays : (fit : ℕ → Bool) (Before : ℕ → ℕ → Type 0) (n : ℕ) (o : Option ℕ) → IsChosen fit Before n o → fit n ≡ false → IsChosen fit Before (n + 1) o
chosen_stays fit Before n None h f = λ i p. ⊎_elim (λ (s : i ≡ n). ap fit s ∙ f) (λ (s : i ≢ n). h i (omega (arith, p, s))) (cases_eq i n)
chosen_stays fit Before n (Some e) h f = (
  omega (arith, h.0),
  h.1,
  λ i p g. ⊎_elim (λ (s : i ≡ n). absurd (true_false (sym g ∙ (ap fit s ∙ f)))) (λ (s : i ≢ n). h.2 i (omega (arith, p, s)) g) (cases_eq i n),
)

pub chosen_keeps : (fit : ℕ → Bool) (Before : ℕ → ℕ → Type 0) (n e : ℕ) → IsChosen fit Before n (Some e) → Before e n → IsChosen fit Before (n + 1) (Some e)
chosen_keeps fit Before n e h b = (
  omega (arith, h.0),
  h.1,
  λ i p g. ⊎_elim (λ (s : i ≡ n). subst (Before e) (sym s) b) (λ (s : i ≢ n). h.2 i (omega (arith, p, s)) g) (cases_eq i n),
)

pub chosen_first : (fit : ℕ → Bool) (Before : ℕ → ℕ → Type 0) (n : ℕ) → IsChosen fit Before n None → fit n ≡ true → Before n n → IsChosen fit Before (n + 1) (Some n)
chosen_first fit Before n h f b = (
  omega arith,
  f,
  λ i p g. ⊎_elim (λ (s : i ≡ n). subst (Before n) (sym s) b) (λ (s : i ≢ n). absurd (true_false (sym g ∙ h i (omega (arith, p, s))))) (cases_eq i n),
)

pub chosen_new : (fit : ℕ → Bool) (Before : ℕ → ℕ → Type 0) (n e : ℕ) → IsChosen fit Before n (Some e) → fit n ≡ true → Before n n
    → ((i : ℕ) → Before e i → Before n i) → IsChosen fit Before (n + 1) (Some n)
chosen_new fit Before n e h f b chain = (
  omega arith,
  f,
  λ i p g. ⊎_elim (λ (s : i ≡ n). subst (Before n) (sym s) b) (λ (s : i ≢ n). chain i (h.2 i (omega (arith, p, s)) g)) (cases_eq i n),
)

-- ---- the order by ratio, then by variable
pub precedes_itself : (a : Exact) (v : ℕ) → Precedes a v a v
precedes_itself a v = record { ratio = at_most_refl a; tie = λ h. omega arith }

pub precedes_chain : (a b c : Exact) (v w x : ℕ) → Precedes a v b w → Precedes b w c x → Precedes a v c x
precedes_chain a b c v w x p q = record {
  ratio = at_most_trans a b c p.ratio q.ratio;
  tie = λ h.
      let one : v ≤ w = p.tie (at_most_trans b c a q.ratio h) in
      let two : w ≤ x = q.tie (at_most_trans c a b h p.ratio) in
      omega (arith, one, two);
}

same_cmp : (a b : Exact) → IsAtMost a b → IsAtMost b a → exact_cmp a b ≡ Equal
same_cmp a b p q = exact_cmp-same a b (at_most_antisymm a b p q)

pub precedes_yes : (a b : Exact) (v w : ℕ) → does_precede a v b w ≡ true → Precedes a v b w
precedes_yes a b v w h = ⊎_elim
    (λ (s : IsBelow a b). record { ratio = at_most_below a b s; tie = λ t. absurd (below_not_at_most a b s t) })
    (λ (s : IsAtMost b a). ⊎_elim
    (λ (t : IsBelow b a). absurd (no t))
    (λ (t : IsAtMost a b). record { ratio = t; tie = λ _. less (same_cmp a b t s) }) (below_or_at_most b a))
    (below_or_at_most a b)
  where
    no : IsBelow b a → ⊥
    no t =
        let k : (is_lt Greater || (is_eq Greater && nat_lt v w)) ≡ true =
        ap (λ (o : Ordering). is_lt o || (is_eq o && nat_lt v w)) (sym (exact_cmp-above a b t)) ∙ h in absurd cc

    less : exact_cmp a b ≡ Equal → v ≤ w
    less e =
        let k : nat_lt v w ≡ true =
        ap (λ (o : Ordering). is_lt o || (is_eq o && nat_lt v w)) (sym e) ∙ h in grind (arith, k)

pub precedes_no : (a b : Exact) (v w : ℕ) → does_precede a v b w ≡ false → Precedes b w a v
precedes_no a b v w h = ⊎_elim
    (λ (s : IsBelow a b). absurd (no s))
    (λ (s : IsAtMost b a). record { ratio = s; tie = λ t. less (same_cmp a b t s) })
    (below_or_at_most a b)
  where
    no : IsBelow a b → ⊥
    no t =
        let k : (is_lt Less || (is_eq Less && nat_lt v w)) ≡ false =
        ap (λ (o : Ordering). is_lt o || (is_eq o && nat_lt v w)) (sym (exact_cmp-below a b t)) ∙ h in absurd cc

    less : exact_cmp a b ≡ Equal → w ≤ v
    less e =
        let k : nat_lt v w ≡ false =
        ap (λ (o : Ordering). is_lt o || (is_eq o && nat_lt v w)) (sym e) ∙ h in grind (arith, k)

-- ---- signs as the code tests them
pub over_no : (z : ℤ) → le_z z (pos 0) ≡ true → int_lt (pos 0) z ≡ false
over_no z h = grind (arith, ints)

pub over_yes : (z : ℤ) → le_z z (pos 0) ≡ false → int_lt (pos 0) z ≡ true
over_yes z h = grind (arith, ints)

-- ---- from the first n lines to one more: the line that leaves
pub fits_more : (lines : List Line) (e n : ℕ) → DoRatiosFit lines e n
    → (does_limit lines e n ≡ true → does_product_fit (line_at lines n).bound (inverse (fraction_at (line_at lines n).cells e)) ≡ true)
    → DoRatiosFit lines e (n + 1)
fits_more lines e n h f i p g = ⊎_elim
    (λ (s : i ≡ n). subst (λ (k : ℕ). does_product_fit (line_at lines k).bound (inverse (fraction_at (line_at lines k).cells e)) ≡ true) (sym s)
    (f (subst (λ (k : ℕ). does_limit lines e k ≡ true) s g)))
    (λ (s : i ≢ n). h i (omega (arith, p, s)) g)
    (cases_eq i n)

-- What the first n lines give. For each line that limits the entering variable, the numbers of its ratio fit. Of these lines, o is the chosen one,
-- and `least` is its ratio. If there are no such lines, o is `None`.
pub record IsFound (lines : List Line) (e n : ℕ) (least : Exact) (o : Option ℕ) : Type 0 where
  pub fit : DoRatiosFit lines e n
  pub chosen : IsChosen (does_limit lines e) (LeavesBefore lines e) n o
  pub ratio : IsRatioOf lines e least o

pub found_skip : (lines : List Line) (e n : ℕ) (least : Exact) (o : Option ℕ) → IsFound lines e n least o → does_limit lines e n ≡ false → IsFound lines e (n + 1) least o
found_skip lines e n least o h f = record {
  fit = fits_more lines e n h.fit (λ g. absurd (true_false (sym g ∙ f)));
  chosen = chosen_stays (does_limit lines e) (LeavesBefore lines e) n o h.chosen f;
  ratio = h.ratio;
}

pub found_first : (lines : List Line) (e n : ℕ) (least a : Exact) → IsFound lines e n least None → does_limit lines e n ≡ true
    → (does_product_fit (line_at lines n).bound (inverse (fraction_at (line_at lines n).cells e)) ≡ true) × (a ≡ line_ratio lines e n)
    → IsFound lines e (n + 1) a (Some n)
found_first lines e n least a h f q = record {
  fit = fits_more lines e n h.fit (λ g. q.0);
  chosen = chosen_first (does_limit lines e) (LeavesBefore lines e) n h.chosen f (precedes_itself (line_ratio lines e n) (line_at lines n).basic);
  ratio = q.1;
}

pub found_keeps : (lines : List Line) (e n r v w : ℕ) (least a : Exact) → IsFound lines e n least (Some r) → v ≡ (line_at lines n).basic → w ≡ (line_at lines r).basic
    → (does_product_fit (line_at lines n).bound (inverse (fraction_at (line_at lines n).cells e)) ≡ true) × (a ≡ line_ratio lines e n)
    → does_precede a v least w ≡ false → IsFound lines e (n + 1) least (Some r)
found_keeps lines e n r v w least a h sv sw q b = record {
  fit = fits_more lines e n h.fit (λ g. q.0);
  chosen = chosen_keeps (does_limit lines e) (LeavesBefore lines e) n r h.chosen
      (precedes_no (line_ratio lines e n) (line_ratio lines e r) (line_at lines n).basic (line_at lines r).basic
      ((λ i. does_precede (sym q.1 i) (sym sv i) (sym h.ratio i) (sym sw i)) ∙ b));
  ratio = h.ratio;
}

pub found_new : (lines : List Line) (e n r v w : ℕ) (least a : Exact) → IsFound lines e n least (Some r) → v ≡ (line_at lines n).basic → w ≡ (line_at lines r).basic
    → does_limit lines e n ≡ true
    → (does_product_fit (line_at lines n).bound (inverse (fraction_at (line_at lines n).cells e)) ≡ true) × (a ≡ line_ratio lines e n)
    → does_precede a v least w ≡ true → IsFound lines e (n + 1) a (Some n)
found_new lines e n r v w least a h sv sw f q b =
    let before : LeavesBefore lines e n r =
    precedes_yes (line_ratio lines e n) (line_ratio lines e r) (line_at lines n).basic (line_at lines r).basic
    ((λ i. does_precede (sym q.1 i) (sym sv i) (sym h.ratio i) (sym sw i)) ∙ b) in
    record {
      fit = fits_more lines e n h.fit (λ g. q.0);
      chosen = chosen_new (does_limit lines e) (LeavesBefore lines e) n r h.chosen f (precedes_itself (line_ratio lines e n) (line_at lines n).basic)
          (λ i s. precedes_chain (line_ratio lines e n) (line_ratio lines e r) (line_ratio lines e i) (line_at lines n).basic (line_at lines r).basic (line_at lines i).basic before s);
      ratio = q.1;
    }
