-- The formula of each place says that the rule is true there. At each place where one more symbol makes the rule fit, the rule is given: each cell
-- that it reads is in range and has a symbol.
use Rattle.std.proofs.Common.{◌≡◌, ◌<◌, ◌+◌, ℕ, Bool, true, false, cond, List, [], ◌∷◌, ◌++◌, length, get_or, take, Some, None, Result, Ok, Err, IfOk, refl, sym, ◌∙◌, ap, subst, arith}
use Rattle.std.proofs.{Math.Path.fun_ext, lemmas.Bool.eqb-true, lemmas.Bool.lt-ltb, lemmas.List.take_more, lemmas.List.length-take-le}
use Rattle.std.proofs.lemmas.{List.Folds.list_all-append, Option.slice_get_past}
use Rattle.std.specs.{Prelude.◌&&◌, Prelude.◌||◌, Prelude.not, Prelude.slice_get, Prelude.All, Bool.nat_eq}
use Rattle.std.specs.{List.list_all, List.position_or_len, Ordering.is_eq}
use Rattle.dd_lattice.specs.{Place.Place, Place.moved, Place.is_in_range, Cells.cell, Cells.shifted, Order.cell_cmp}
use Rattle.dd_lattice.specs.declared.position.Cell.{Cell}
use Rattle.dd_pattern.specs.Reading.{Look, HasSymbolsBelow}
use Rattle.dd_expansion.specs.{declared.expanded.Expanded.Expanded, Leaves.holds}
use Rattle.dd_numbered.specs.{declared.numbered.Numbered.Numbered, Numbered.holds_in}
use Rattle.dd_numbered.specs.Numbering.{rank, read_by, symbol_with}
use Rattle.dd_formula.specs.LocalRule.{LocalRule, is_given, is_true}
use Rattle.dd_rows.specs.Fillings.{look_of}
use Rattle.dd_rows.specs.listing.Levels.{AreInRange, are_true, is_true_if_given, last_number, settled}
use Rattle.dd_rows.specs.listing.Formulas.{ranks_near, are_all_true, SaysTrue, SayTrue}
use Rattle.dd_rows.specs.lemmas.{Lists.list_all_where, Ready.fits_when, Ready.given_where, Ready.number_past_range}
use Rattle.dd_values.specs.lemmas.Lists.{below_at}

-- ---- one place

look_below : (n : ℕ) (cs : List Cell) (ss : List ℕ) → All (λ s. s < n) ss → HasSymbolsBelow n (look_of cs ss)
look_below n cs ss below c = below_at n ss below (position_or_len (λ d. is_eq (cell_cmp d c)) cs)

-- a cell out of the range of positions has no symbol
none_past : (cs : List Cell) (ss : List ℕ) (d : Cell) → AreInRange cs → length ss ≡ length cs → is_in_range d.position ≡ false → None ≡ look_of cs ss d
none_past cs ss d near size out =
    let past : rank cs d ≡ length cs = number_past_range cs near d out in
    sym (ap (slice_get ss) past ∙ slice_get_past ss (length cs) (omega (arith, size)))

-- the symbol found by a cell's number is the cell's symbol
read_when : (cs : List Cell) (ss : List ℕ) (d : Cell) (b : Bool) → AreInRange cs → length ss ≡ length cs → is_in_range d.position ≡ b →
    symbol_with ss (cond b (Some (rank cs d)) None) ≡ look_of cs ss d
read_when cs ss d true near size is = refl
read_when cs ss d false near size is = none_past cs ss d near size is

near_reads : (cs : List Cell) (v : Place) (ss : List ℕ) → AreInRange cs → length ss ≡ length cs → (c : Cell) → read_by (ranks_near cs v) ss c ≡ look_of cs ss (shifted v c)
near_reads cs v ss near size c = read_when cs ss (shifted v c) (is_in_range (moved c.position v)) near size refl

-- at each cell with the node a, the expansion y (a formula without variables) is true exactly when the rule is true
abbrev pub Tells : LocalRule → ℕ → Expanded → Type 0
Tells x a y = (look : Look) → HasSymbolsBelow x.symbols look → (v : Place) → holds y (λ d. look (shifted v d)) ≡ is_true x (cell v a) look

says_true : (x : LocalRule) (cs ds : List Cell) (c : Cell) (v : Place) (e : Numbered) (y : Expanded) → AreInRange cs → Tells x c.node y → ds ≡ cs → v ≡ c.position →
    ((ss : List ℕ) → holds_in e ss ≡ holds y (read_by (ranks_near ds v) ss)) → SaysTrue x cs c e
says_true x cs ds c v e y near tells cells at says ss size below =
    let same : read_by (ranks_near cs c.position) ss ≡ (λ d. look_of cs ss (shifted c.position d)) = fun_ext (near_reads cs c.position ss near size) in
    says ss
    ∙ (ap (λ (es : List Cell). holds y (read_by (ranks_near es v) ss)) cells
    ∙ (ap (λ (p : Place). holds y (read_by (ranks_near cs p) ss)) at
    ∙ (ap (holds y) same ∙ tells (look_of cs ss) (look_below x.symbols cs ss below) c.position)))

pub says_true_if : {E : Type 0} (x : LocalRule) (cs ds : List Cell) (c : Cell) (v : Place) (made : Result Numbered E) (y : Expanded) → AreInRange cs → Tells x c.node y → ds ≡ cs →
    v ≡ c.position → IfOk made (λ e. (ss : List ℕ) → holds_in e ss ≡ holds y (read_by (ranks_near ds v) ss)) → IfOk made (SaysTrue x cs c)
says_true_if x cs ds c v (Ok e) y near tells cells at says = says_true x cs ds c v e y near tells cells at says
says_true_if x cs ds c v (Err fault) y near tells cells at says = tt

-- ---- several places

say_more : (x : LocalRule) (cs places : List Cell) (es : List Numbered) (c : Cell) (e : Numbered) → SayTrue x cs places es → SaysTrue x cs c e → SayTrue x cs (places ++ c ∷ []) (es ++ e ∷ [])
say_more x cs places es c e before here ss size below =
    let t : Cell → Bool = λ d. is_true x d (look_of cs ss) in
    let h : Numbered → Bool = λ f. holds_in f ss in
    list_all-append h es (e ∷ [])
    ∙ (ap (λ b. b && list_all h (e ∷ [])) (before ss size below)
    ∙ (ap (λ b. list_all t places && (b && true)) (here ss size below) ∙ sym (list_all-append t places (c ∷ []))))

pub say_next : (x : LocalRule) (cs places : List Cell) (i : ℕ) (c : Cell) (old new : List Numbered) (e : Numbered) → i < length places → c ≡ get_or places i c →
    SayTrue x cs (take i places) old → SaysTrue x cs c e → new ≡ old ++ e ∷ [] → SayTrue x cs (take (i + 1) places) new
say_next x cs places i c old new e below at before here is =
    let longer : take i places ++ c ∷ [] ≡ take (i + 1) places = ap (λ (d : Cell). take i places ++ d ∷ []) at ∙ sym (take_more places i c below) in
    subst (λ (ps : List Cell). SayTrue x cs ps new) longer (subst (SayTrue x cs (take i places ++ c ∷ [])) (sym is) (say_more x cs (take i places) old c e before here))

-- ---- the places where the next symbol makes the rule fit

given_settled : (x : LocalRule) (all : List Cell) → AreInRange all → (j : ℕ) → j < length all → (ss : List ℕ) → length ss ≡ j + 1 → (d : Cell) → nat_eq (last_number x all d) j ≡ true →
    is_given x d (look_of (take (j + 1) all) ss) ≡ true
given_settled x all near j below ss size d h =
    let last : last_number x all d ≡ j = eqb-true (last_number x all d) j h in
    given_where x all near (j + 1) ss d (omega (arith, below)) size (fits_when x all (j + 1) ss d size ∙ lt-ltb (last_number x all d) (j + 1) (omega (arith, last)))

true_if : (g t : Bool) → g ≡ true → t ≡ (not g || t)
true_if g t h = rw h refl

pub settled_truth : (x : LocalRule) (all : List Cell) → AreInRange all → (j : ℕ) → j < length all → (ss : List ℕ) → length ss ≡ j + 1 → All (λ s. s < x.symbols) ss →
    (es : List Numbered) → SayTrue x (take (j + 1) all) (settled x all j) es → are_all_true es ss ≡ are_true x (take (j + 1) all) (settled x all j) ss
settled_truth x all near j below ss size low es says =
    let look : Look = look_of (take (j + 1) all) ss in
    let at : Cell → Bool = λ d. nat_eq (last_number x all d) j in
    says ss (size ∙ sym (length-take-le (j + 1) all (omega (arith, below)))) low
    ∙ list_all_where (λ d. is_true x d look) (is_true_if_given x look) at (λ d h. true_if (is_given x d look) (is_true x d look) (given_settled x all near j below ss size d h)) all
