-- The loop over the cells of a filling: its start, its step and its end.
use Rattle.std.proofs.Common.{◌≡◌, ◌<◌, ◌≤◌, ◌+◌, ◌-◌, ◌*◌, ◌/◌, ◌%◌, ◌^◌, ◌&&◌, ℕ, zero, suc, Bool, true, false, not, cond, Option, Some, None, List, [], ◌∷◌, ◌++◌, length, drop, get_or, refl, sym, ◌∙◌, ap, subst, arith}
use Rattle.std.proofs.{Math.Seq.drop-cons, lemmas.Bool.false≢true}
use Rattle.std.proofs.lemmas.List.{append_assoc, append-nil, length-append, length-drop, get_or-map}
use Rattle.std.proofs.lemmas.List.Elements.{All-nil, All-append, All-cons, All-push, All-head, All-drop}
use Rattle.std.specs.{Prelude.IfSome, List.All, List.range_with_len, List.list_all}
use mathlib.Core.Path.{fun_ext}
use Rattle.dd_minimal.specs.declared.outcome.Outcome.{Outcome}
use Rattle.dd_minimal.specs.declared.outcome.Outcome.TheVariants.{Barred, Breaks, Holds}
use Rattle.dd_minimal.specs.{Patterns.whole, Minimal.thinned}
use Rattle.dd_minimal.specs.finding.Numbers.{number, strides_of, digits, open_strides, least_number, reach, KeepsBelow}
use Rattle.dd_minimal.specs.finding.{Outcomes.does_break, Outcomes.does_hold, Walks.none_holds, Walks.is_enough}
use Rattle.dd_minimal.specs.finding.States.{IsThinnedTo, IsThinned}
use Rattle.dd_minimal.proofs.ThinLaws.{whole_length, whole_below}
use Rattle.dd_minimal.proofs.{NumberLaws.strides_length, NumberLaws.digits_word, NumberLaws.number_of_digits, WalkLaws.reach_below}
use Rattle.dd_values.specs.lemmas.{Booleans.and_four, Numbers.power_some, Lists.list_all_agree, Lists.list_all_both}

-- ---- the start, where no cell is left out

open_whole : (m : ℕ) (ss : List ℕ) → open_strides m (whole ss) ≡ []
open_whole m [] = refl
open_whole m (s ∷ ss) = open_whole m ss

least_whole : (m : ℕ) (ss : List ℕ) → least_number m (whole ss) ≡ number m ss
least_whole m [] = refl
least_whole m (s ∷ ss) = ap (λ k. s * m ^ k + least_number m (whole ss)) (whole_length ss) ∙ ap (λ k. s * m ^ length ss + k) (least_whole m ss)

not_held : (o : Outcome) → does_break o ≡ true → not (does_hold o) ≡ true
not_held Barred h = absurd (false≢true h)
not_held Breaks h = refl
not_held Holds h = absurd (false≢true h)

pub start : (m : ℕ) (table : List Outcome) (ss : List ℕ) (at : ℕ) → number m ss ≡ at → does_break (get_or table at Barred) ≡ true → IsThinnedTo m table ss 0 [] [] at
start m table ss at is breaks = record {
  as_many = refl;
  below = All-nil (λ p. IfSome p (λ s. s < m));
  left = refl;
  strides = sym (open_whole m ss);
  least = sym is ∙ sym (least_whole m ss);
  enough = ap (λ ds. none_holds m ds table (least_number m (whole ss))) (open_whole m ss)
      ∙ (ap (λ k. not (does_hold (get_or table k Barred))) (least_whole m ss ∙ is) ∙ not_held (get_or table at Barred) breaks);
}

-- ---- one more cell is left out

same_length : (p : List (Option ℕ)) (x y : Option ℕ) (rest : List (Option ℕ)) → length (p ++ x ∷ rest) ≡ length (p ++ y ∷ rest)
same_length [] x y rest = refl
same_length (q ∷ p) x y rest = ap suc (same_length p x y rest)

open_more : (m : ℕ) (p : List (Option ℕ)) (s : ℕ) (rest : List ℕ) → open_strides m (p ++ None ∷ whole rest) ≡ open_strides m (p ++ Some s ∷ whole rest) ++ m ^ length rest ∷ []
open_more m [] s rest = ap (λ k. m ^ k ∷ open_strides m (whole rest)) (whole_length rest) ∙ (ap (λ ds. m ^ length rest ∷ ds) (open_whole m rest) ∙ ap (λ ds. ds ++ m ^ length rest ∷ []) (sym (open_whole m rest)))
open_more m (None ∷ p) s rest =
    ap (λ k. m ^ k ∷ open_strides m (p ++ None ∷ whole rest)) (same_length p None (Some s) (whole rest)) ∙ ap (λ ds. m ^ length (p ++ Some s ∷ whole rest) ∷ ds) (open_more m p s rest)
open_more m (Some t ∷ p) s rest = open_more m p s rest

least_less : (m : ℕ) (p : List (Option ℕ)) (s : ℕ) (rest : List ℕ) → least_number m (p ++ Some s ∷ whole rest) ≡ least_number m (p ++ None ∷ whole rest) + s * m ^ length rest
least_less m [] s rest =
    let long = ap (λ k. s * m ^ k) (whole_length rest) in
    omega (arith, long)
least_less m (None ∷ p) s rest = least_less m p s rest
least_less m (Some t ∷ p) s rest =
    let long = ap (λ k. t * m ^ k) (same_length p (Some s) None (whole rest)) in
    let behind = least_less m p s rest in
    omega (arith, long, behind)

-- ---- walks with one more stride at the end

open_left : (x : ℕ) (y : ℕ) (z : ℕ) → x + y + z ≡ x + z + y
open_left x y z = omega arith

all_true : {X : Type 0} (xs : List X) → list_all (λ x. true) xs ≡ true
all_true [] = refl
all_true (x ∷ xs) = all_true xs

turn_all : {X Y : Type 0} (f : X → Y → Bool) (xs : List X) (ys : List Y) → list_all (λ x. list_all (f x) ys) xs ≡ list_all (λ y. list_all (λ x. f x y) xs) ys
turn_all f [] ys = sym (all_true ys)
turn_all f (x ∷ xs) ys = ap (λ b. list_all (f x) ys && b) (turn_all f xs ys) ∙ sym (list_all_both (f x) (λ y. list_all (λ z. f z y) xs) ys)

pub none_holds_last : (m : ℕ) (ds : List ℕ) (d : ℕ) (table : List Outcome) (from : ℕ) →
    none_holds m (ds ++ d ∷ []) table from ≡ list_all (λ s. none_holds m ds table (from + s * d)) (range_with_len 0 m)
none_holds_last m [] d table from = refl
none_holds_last m (e ∷ ds) d table from =
    let ks = range_with_len 0 m in
    list_all_agree (λ s. none_holds m (ds ++ d ∷ []) table (from + s * e)) (λ s. list_all (λ t. none_holds m ds table (from + s * e + t * d)) ks)
    (λ s. none_holds_last m ds d table (from + s * e)) ks
    ∙ (turn_all (λ s t. none_holds m ds table (from + s * e + t * d)) ks ks
    ∙ list_all_agree (λ t. list_all (λ s. none_holds m ds table (from + s * e + t * d)) ks) (λ t. list_all (λ s. none_holds m ds table (from + t * d + s * e)) ks)
    (λ t. list_all_agree (λ s. none_holds m ds table (from + s * e + t * d)) (λ s. none_holds m ds table (from + t * d + s * e)) (λ s. ap (none_holds m ds table) (open_left from (s * e) (t * d))) ks) ks)

-- ---- the step

pub record IsStep (m : ℕ) (table : List Outcome) (ss : List ℕ) (k : ℕ) (p : List (Option ℕ)) (ds : List ℕ) (from stride symbol : ℕ) : Type 0 where
  pub fits : symbol * stride ≤ from
  pub within : (from - symbol * stride) + reach m (ds ++ stride ∷ []) < m ^ length ss
  pub kept : none_holds m ds table ((from - symbol * stride) + symbol * stride) ≡ true
  pub leave : none_holds m (ds ++ stride ∷ []) table (from - symbol * stride) ≡ true → IsThinnedTo m table ss (k + 1) (p ++ None ∷ []) (ds ++ stride ∷ []) (from - symbol * stride)
  pub keep : none_holds m (ds ++ stride ∷ []) table (from - symbol * stride) ≡ false → IsThinnedTo m table ss (k + 1) (p ++ Some symbol ∷ []) ds from

settled : (e : List (Option ℕ) → Bool) (p : List (Option ℕ)) (s : ℕ) (rest : List ℕ) (x : Option ℕ) (all : List (Option ℕ)) → cond (e (p ++ None ∷ whole rest)) None (Some s) ≡ x →
    p ++ thinned (λ q. e (p ++ q)) (s ∷ rest) ≡ all → (p ++ x ∷ []) ++ thinned (λ q. e ((p ++ x ∷ []) ++ q)) rest ≡ all
settled e p s rest x all is before =
    let f : List (Option ℕ) → Bool = λ q. e (p ++ x ∷ q) in
    ap (λ g. (p ++ x ∷ []) ++ thinned g rest) (fun_ext (λ q. ap e (append_assoc p (x ∷ []) q)))
    ∙ (append_assoc p (x ∷ []) (thinned f rest)
    ∙ (ap (λ y. p ++ y ∷ thinned (λ q. e (p ++ y ∷ q)) rest) (sym is) ∙ before))

pushed : (p : List (Option ℕ)) (k : ℕ) (x : Option ℕ) → length p ≡ k → length (p ++ x ∷ []) ≡ k + 1
pushed p k x is = length-append p (x ∷ []) ∙ ap (λ n. n + 1) is

pub step : (m : ℕ) (table : List Outcome) (ss rest : List ℕ) (k s : ℕ) (p : List (Option ℕ)) (ds : List ℕ) (from stride : ℕ) → 0 < m → All (λ t. t < m) ss → length ss ≡ k + suc (length rest) → IsThinnedTo m table ss k p ds from →
    drop k ss ≡ s ∷ rest → drop (k + 1) ss ≡ rest → s < m → stride ≡ m ^ length rest → IsStep m table ss k p ds from stride s
step m table ss rest k s p ds from stride some below count so here later small is =
    let K : Option ℕ → Type 0 = λ q. IfSome q (λ t. t < m) in
    let e = is_enough m table in
    let without = p ++ None ∷ whole rest in
    let with_ = p ++ Some s ∷ whole rest in
    let opened : ds ≡ open_strides m with_ = so.strides ∙ ap (λ qs. open_strides m (p ++ whole qs)) here in
    let least : from ≡ least_number m with_ = so.least ∙ ap (λ qs. least_number m (p ++ whole qs)) here in
    let less : from ≡ least_number m without + s * stride = least ∙ (least_less m p s rest ∙ ap (λ d. least_number m without + s * d) (sym is)) in
    let start_ : from - s * stride ≡ least_number m without = omega (arith, less) in
    let more : ds ++ stride ∷ [] ≡ open_strides m without = ap (λ d. ds ++ d ∷ []) is ∙ (ap (λ es. es ++ m ^ length rest ∷ []) opened ∙ sym (open_more m p s rest)) in
    let behind : All (λ t. t < m) rest = subst (All (λ t. t < m)) later (All-drop (λ t. t < m) (k + 1) ss below) in
    let keeps : KeepsBelow m without = All-append K p (None ∷ whole rest) so.below (All-cons K None (whole rest) tt (whole_below m rest behind)) in
    let long : length without ≡ length ss = length-append p (None ∷ whole rest) ∙ (let a = so.as_many in let b = whole_length rest in omega (arith, a, b, count)) in
    let test : none_holds m (ds ++ stride ∷ []) table (from - s * stride) ≡ e without = ap (λ es. none_holds m es table (from - s * stride)) more ∙ ap (none_holds m (open_strides m without) table) start_ in
    record {
      fits = omega (arith, less);
      within = subst (λ x. x + reach m (ds ++ stride ∷ []) < m ^ length ss) (sym start_)
          (subst (λ es. least_number m without + reach m es < m ^ length ss) (sym more) (subst (λ n. least_number m without + reach m (open_strides m without) < m ^ n) long (reach_below m without some keeps)));
      kept = ap (λ es. none_holds m es table ((from - s * stride) + s * stride)) so.strides
          ∙ (ap (none_holds m (open_strides m (p ++ whole (drop k ss))) table) ((let back : (from - s * stride) + s * stride ≡ from = omega (arith, less) in back) ∙ so.least) ∙ so.enough);
      leave = λ passes. record {
        as_many = pushed p k None so.as_many;
        below = All-push K p None so.below tt;
        left = subst (λ qs. (p ++ None ∷ []) ++ thinned (λ q. e ((p ++ None ∷ []) ++ q)) qs ≡ thinned e ss) (sym later)
            (settled e p s rest None (thinned e ss) (ap (λ b. cond b None (Some s)) (sym test ∙ passes)) (subst (λ qs. p ++ thinned (λ q. e (p ++ q)) qs ≡ thinned e ss) here so.left));
        strides = more ∙ (ap (open_strides m) (sym (append_assoc p (None ∷ []) (whole rest))) ∙ ap (λ qs. open_strides m ((p ++ None ∷ []) ++ whole qs)) (sym later));
        least = start_ ∙ (ap (least_number m) (sym (append_assoc p (None ∷ []) (whole rest))) ∙ ap (λ qs. least_number m ((p ++ None ∷ []) ++ whole qs)) (sym later));
        enough = ap (λ qs. e ((p ++ None ∷ []) ++ whole qs)) later ∙ (ap e (append_assoc p (None ∷ []) (whole rest)) ∙ (sym test ∙ passes));
      };
      keep = λ fails. record {
        as_many = pushed p k (Some s) so.as_many;
        below = All-push K p (Some s) so.below small;
        left = subst (λ qs. (p ++ Some s ∷ []) ++ thinned (λ q. e ((p ++ Some s ∷ []) ++ q)) qs ≡ thinned e ss) (sym later)
            (settled e p s rest (Some s) (thinned e ss) (ap (λ b. cond b None (Some s)) (sym test ∙ fails)) (subst (λ qs. p ++ thinned (λ q. e (p ++ q)) qs ≡ thinned e ss) here so.left));
        strides = opened ∙ (ap (open_strides m) (sym (append_assoc p (Some s ∷ []) (whole rest))) ∙ ap (λ qs. open_strides m ((p ++ Some s ∷ []) ++ whole qs)) (sym later));
        least = least ∙ (ap (least_number m) (sym (append_assoc p (Some s ∷ []) (whole rest))) ∙ ap (λ qs. least_number m ((p ++ Some s ∷ []) ++ whole qs)) (sym later));
        enough = ap (λ qs. e ((p ++ Some s ∷ []) ++ whole qs)) later ∙ (ap e (append_assoc p (Some s ∷ []) (whole rest)) ∙ (ap (λ qs. e (p ++ whole qs)) (sym here) ∙ so.enough));
      };
    }

-- ---- the step in the filling with the number `at`

stride_at : (m n k : ℕ) → k < n → get_or (strides_of m n) k 0 ≡ m ^ (n - suc k)
stride_at m zero k within = absurd (omega (arith, within))
stride_at m (suc n) zero within = ap (λ i. m ^ i) (let one : n ≡ suc n - 1 = omega arith in one)
stride_at m (suc n) (suc k) within = stride_at m n k (omega (arith, within)) ∙ ap (λ i. m ^ i) (let one : n - suc k ≡ suc n - suc (suc k) = omega arith in one)

pub stride_some : (m n k d : ℕ) → 0 < m → k < n → d ≡ get_or (strides_of m n) k 0 → 0 < d
stride_some m n k d some within is = subst (λ x. 0 < x) (sym (is ∙ stride_at m n k within)) (power_some m (n - suc k) some)

pub step_at : (m : ℕ) (table : List Outcome) (n at k stride symbol : ℕ) (p : List (Option ℕ)) (ds : List ℕ) (from : ℕ) → 0 < m → k < n → stride ≡ get_or (strides_of m n) k 0 → symbol ≡ at / stride % m →
    IsThinnedTo m table (digits m (strides_of m n) at) k p ds from → IsStep m table (digits m (strides_of m n) at) k p ds from stride symbol
step_at m table n at k stride symbol p ds from some within is digit so =
    let ss = digits m (strides_of m n) at in
    let w = digits_word m n at some in
    let many = w.as_many in
    let rest = drop (suc k) ss in
    let item : get_or ss k 0 ≡ symbol = get_or-map (λ d. at / d % m) (strides_of m n) k 0 0 (let count = strides_length m n in omega (arith, count, within)) ∙ (ap (λ d. at / d % m) (sym is) ∙ sym digit) in
    let here : drop k ss ≡ symbol ∷ rest = drop-cons ss k 0 (omega (arith, many, within)) ∙ ap (λ x. x ∷ rest) item in
    let dropped : length rest ≡ n - suc k = length-drop (suc k) ss ∙ ap (λ i. i - suc k) many in
    step m table ss rest k symbol p ds from stride some w.below (omega (arith, many, dropped, within)) so here (ap (λ i. drop i ss) (let next : k + 1 ≡ suc k = omega arith in next))
    (All-head (λ t. t < m) symbol rest (subst (All (λ t. t < m)) here (All-drop (λ t. t < m) k ss w.below)))
    (is ∙ (stride_at m n k within ∙ ap (λ i. m ^ i) (sym dropped)))

-- the step, with the stride and the symbol that the code uses
pub step_in : (m : ℕ) (table : List Outcome) (all : List ℕ) (at k symbol : ℕ) (p : List (Option ℕ)) (ds : List ℕ) (from : ℕ) → 0 < m → all ≡ strides_of m (length all) → k < length all → symbol ≡ at / get_or all k 0 % m →
    IsThinnedTo m table (digits m all at) k p ds from → IsStep m table (digits m all at) k p ds from (get_or all k 0) symbol
step_in m table all at k symbol p ds from some is within digit so =
    subst (λ es. IsStep m table (digits m es at) k p ds from (get_or all k 0) symbol) (sym is)
    (step_at m table (length all) at k (get_or all k 0) symbol p ds from some within (ap (λ es. get_or es k 0) is) digit (subst (λ es. IsThinnedTo m table (digits m es at) k p ds from) is so))

pub start_in : (m : ℕ) (table : List Outcome) (all : List ℕ) (at : ℕ) → 0 < m → all ≡ strides_of m (length all) → at < m ^ length all → does_break (get_or table at Barred) ≡ true → IsThinnedTo m table (digits m all at) 0 [] [] at
start_in m table all at some is within breaks =
    start m table (digits m all at) at (ap (λ es. number m (digits m es at)) is ∙ number_of_digits m (length all) at some within) breaks

pub stride_in : (m k : ℕ) (all : List ℕ) → 0 < m → all ≡ strides_of m (length all) → k < length all → 0 < get_or all k 0
stride_in m k all some is within = stride_some m (length all) k (get_or all k 0) some within (ap (λ es. get_or es k 0) is)

-- the end, where all cells are done
drop_all : (xs : List ℕ) → drop (length xs) xs ≡ []
drop_all [] = refl
drop_all (x ∷ xs) = drop_all xs

pub end : (m : ℕ) (table : List Outcome) (ss : List ℕ) (k : ℕ) (p : List (Option ℕ)) (ds : List ℕ) (from : ℕ) → k ≡ length ss → IsThinnedTo m table ss k p ds from → IsThinned m table ss p ds from
end m table ss k p ds from is so =
    let none : drop k ss ≡ [] = ap (λ i. drop i ss) is ∙ drop_all ss in
    let no_more : p ++ whole (drop k ss) ≡ p = ap (λ qs. p ++ whole qs) none ∙ append-nil p in
    record {
      pattern = sym (append-nil p) ∙ (ap (λ qs. p ++ thinned (λ q. is_enough m table (p ++ q)) qs) (sym none) ∙ so.left);
      as_many = so.as_many ∙ is;
      below = so.below;
      strides = so.strides ∙ ap (open_strides m) no_more;
      least = so.least ∙ ap (least_number m) no_more;
    }
