-- Lists made node by node. With the entries of the next node appended, a list for n nodes becomes one for n + 1. The whole list is unique if the list
-- of each node is unique. It is short if the lists of the nodes are short, and its entries have a property if those of each node have it.
use Rattle.std.proofs.Common.{◌≡◌, ℕ, zero, suc, ◌+◌, ◌*◌, ◌≤◌, ◌<◌, List, ◌++◌, map, length, ap, sym, subst, ◌∙◌, arith, length-append, add-one}
use Rattle.std.proofs.lemmas.List.{length-map, Elements.All-nil, Elements.All-append, Elements.All-map}
use Rattle.std.specs.List.{All}
use Rattle.dd_evidence.specs.NodeLists.{IsListedAfter, IsListTo}

module _ {A B : Type 0} (IsHere : ℕ → List A → Type 0) (entry : ℕ → A → B) where
  pub list_one : ((a : ℕ) (xs ys : List A) → IsHere a xs → IsHere a ys → xs ≡ ys) → (n : ℕ) (some others : List B) →
      IsListTo IsHere entry n some → IsListTo IsHere entry n others → some ≡ others
  list_one one zero some others h k = h ∙ sym k
  list_one one (suc n) some others h k =
      let front : h.before ≡ k.before = list_one one n h.before k.before h.is_before k.is_before in
      let here : h.here ≡ k.here = one n h.here k.here h.is_here k.is_here in
      h.whole ∙ (ap (λ (f : List B). f ++ map (entry n) h.here) front ∙ (ap (λ (xs : List A). k.before ++ map (entry n) xs) here ∙ sym k.whole))

  module _ (P : B → Type 0) (nodes most : ℕ) (each : (a : ℕ) (xs : List A) → a < nodes → IsHere a xs → (length xs ≤ most) × All (λ x. P (entry a x)) xs) where
    pub list_fits : (n : ℕ) (list : List B) → n ≤ nodes → IsListTo IsHere entry n list → (length list ≤ n * most) × All P list
    list_fits zero list le is =
        (let none : length list ≡ 0 = ap length is in omega (arith, none), subst (All P) (sym is) (All-nil P))
    list_fits (suc n) list le is =
        let front = list_fits n is.before (omega (arith, le)) is.is_before in
        let here = each n is.here (omega (arith, le)) is.is_here in
        let both : length list ≡ length is.before + length (map (entry n) is.here) = ap length is.whole ∙ length-append is.before (map (entry n) is.here) in
        let those : length (map (entry n) is.here) ≡ length is.here = length-map is.here (entry n) in
        let start : length is.before ≤ n * most = front.0 in
        let many : length is.here ≤ most = here.0 in (
          omega (arith, both, those, many, start),
          subst (All P) (sym is.whole) (All-append P is.before (map (entry n) is.here) front.1 (All-map P (entry n) is.here here.1)),
        )

  pub next_node : (n : ℕ) (old new : List B) → IsListTo IsHere entry n old → IsListedAfter IsHere entry n (λ before. before ≡ old) new → IsListTo IsHere entry (n + 1) new
  next_node n old new so_far more =
      let next : IsListTo IsHere entry (suc n) new = record {
        before = more.before;
        is_before = subst (IsListTo IsHere entry n) (sym more.is_before) so_far;
        here = more.here;
        is_here = more.is_here;
        whole = more.whole;
      } in
      subst (λ (m : ℕ). IsListTo IsHere entry m new) (sym (add-one n)) next
