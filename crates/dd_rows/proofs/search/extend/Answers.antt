use Rattle.std.proofs.Common.{◌≡◌, ◌+◌, ◌-◌, suc, ◌++◌, ◌∷◌, [], ℕ, List, Bool, true, false, length, take, refl, ap, sym, ◌∙◌, arith}
use Rattle.std.proofs.{lemmas.List.append_assoc, lemmas.List.length-append, Math.Seq.take-append_seam}
use Rattle.std.specs.Prelude.{vec_len}
use Rattle.dd_formula.specs.LocalRule.{rule_allows}
use Rattle.dd_rows.specs.{Fillings.most_fillings, listing.Levels.extended_below, listing.Formulas.are_all_true}
use Rattle.dd_rows.proofs.Steps.{extended_kept, extended_cut, extended_barred, extended_large}
use Rattle.dd_rows.proofs.search.extend.Goals.{then-allows+in_ok-write_symbol, then-all_true+else-len-eq-MOST_FILLINGS+in_ok-filling+in_ok-push, else-all_true, else-allows}
use Rattle.dd_rows.proofs.search.extend.Goals as goal

pub returns-then-len-eq-MOST_FILLINGS-clause-err : goal.returns-then-len-eq-MOST_FILLINGS-clause-err
returns-then-len-eq-MOST_FILLINGS-clause-err c =
    let x = c.args.rule.now in
    let q : List ℕ → Bool = are_all_true c.args.formulas.now in
    let ss = c.args.symbols.now in
    let n = c.loop-symbol.symbol in
    let new : List ℕ = ss ++ n ∷ [] in
    let allowed : rule_allows x c.args.node n ≡ true = sym c.allows.ensures.value ∙ c.if-allows.true in
    let written : c.as_slice.result.now ≡ new = c.as_slice.ensures.value ∙ (c.in_ok-write_symbol.ensures ∙ ap (λ (ts : List ℕ). ts ++ n ∷ []) c.loop-symbol.invariant.0) in
    let kept : q new ≡ true = ap q (sym written) ∙ (sym c.all_true.ensures ∙ c.if-all_true.true) in
    extended_large x q c.args.node ss new n x.symbols most_fillings c.args.next.now c.loop-symbol.next
    (let below = c.loop-symbol-test.true in let all = c.symbols-symbol-end.ensures.value in omega (arith, below, all)) allowed refl kept c.loop-symbol.invariant.1
    (sym c.len.ensures ∙ c.if-len-eq-MOST_FILLINGS.true)

pub loop-symbol-preserved : goal.loop-symbol-preserved
loop-symbol-preserved c =
    let x = c.args.rule.now in
    let q : List ℕ → Bool = are_all_true c.args.formulas.now in
    let a = c.args.node in
    let ss = c.args.symbols.now in
    let n = c.loop-symbol.symbol in
    let new : List ℕ = ss ++ n ∷ [] in
    let begun = c.args.next.now in
    let old = extended_below x q a ss n in
    let next : n + 1 ≡ suc n = omega arith in
    let before = c.loop-symbol.invariant in
    elim c.if-allows.branch [
      | then-allows+in_ok-write_symbol w ↦
          let allowed : rule_allows x a n ≡ true = sym c.allows.ensures.value ∙ w.if-allows.true in
          let grown : w.write_symbol.new.longer.items ≡ new = w.in_ok-write_symbol.ensures ∙ ap (λ (ts : List ℕ). ts ++ n ∷ []) before.0 in
          let written : w.as_slice.result.now ≡ new = w.as_slice.ensures.value ∙ grown in
          let last : vec_len w.write_symbol.new.longer - 1 ≡ length ss =
          let long = ap length written in let one = length-append ss (n ∷ []) in let len = w.as_slice.ensures.len in omega (arith, long, one, len) in
          let shorter : w.pop.new.self.items ≡ ss =
          w.pop.ensures.rest ∙ (ap (λ (k : ℕ). take k w.write_symbol.new.longer.items) last ∙ (ap (λ (ts : List ℕ). take (length ss) ts) grown ∙ take-append_seam ss (n ∷ []))) in
          let back = ap (λ v. v.items) w.longer-is ∙ shorter in
          elim w.if-all_true.branch [
            | then-all_true+else-len-eq-MOST_FILLINGS+in_ok-filling+in_ok-push w' ↦
                let kept : q new ≡ true = ap q (sym written) ∙ (sym w.all_true.ensures ∙ w'.if-all_true.true) in
                let copied : w'.in_ok-filling.filling ≡ new = w'.in_ok-filling.ensures ∙ (w'.as_slice-then-all_true.ensures.value ∙ grown) in
                let is = w.next-is ∙ (w'.next-is ∙ (w'.in_ok-push.ensures.ok ∙ ap (λ (f : List ℕ). c.loop-symbol.next ++ f ∷ []) copied)) in
                let sizes = ap length is in
                let size = length-append c.loop-symbol.next (new ∷ []) in
                let full = w'.if-len-eq-MOST_FILLINGS.false in
                let few = w'.len.ensures in
                let most = before.2 in (
                  back,
                  is ∙ (ap (λ (xs : List (List ℕ)). xs ++ new ∷ []) before.1
                      ∙ (append_assoc begun old (new ∷ []) ∙ ap (λ (xs : List (List ℕ)). begun ++ xs) (sym (extended_kept x q a ss new n (n + 1) next allowed refl kept)))),
                  omega (arith, sizes, size, full, few, most),
                )
            | else-all_true w' ↦
                let cut : q new ≡ false = ap q (sym written) ∙ (sym w.all_true.ensures ∙ w'.if-all_true.false) in
                let is = w.next-is ∙ w'.next-is in
                let sizes = ap length is in
                let most = before.2 in (
                  back,
                  is ∙ (before.1 ∙ ap (λ (xs : List (List ℕ)). begun ++ xs) (sym (extended_cut x q a ss new n (n + 1) next allowed refl cut))),
                  omega (arith, sizes, most),
                )
          ]
      | else-allows w ↦
          let barred : rule_allows x a n ≡ false = sym c.allows.ensures.value ∙ w.if-allows.false in
          let sizes = ap length w.next-is in
          let most = before.2 in (
            ap (λ v. v.items) w.longer-is ∙ before.0,
            w.next-is ∙ (before.1 ∙ ap (λ (xs : List (List ℕ)). begun ++ xs) (sym (extended_barred x q a ss n (n + 1) next barred))),
            omega (arith, sizes, most),
          )
    ]
