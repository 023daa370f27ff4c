-- Where the cells that a rule reads have allowed symbols, the rule is false exactly when these symbols are a listed pattern.
use Rattle.std.proofs.Common.{◌≡◌, ℕ, zero, suc, ◌<◌, Bool, true, false, List, [], ◌∷◌, map, length, get_or, slice_get, Some, None, refl, ap, sym, ◌∙◌, arith, rules}
use Rattle.std.proofs.lemmas.{Option.slice_get_within, Option.slice_get-get_or, List.length-map}
use Rattle.std.proofs.lemmas.{List.Sums.list_all-from_AllPass, Cmp.tied_itself}
use Rattle.std.specs.{Prelude.◌↔◌, Prelude.Option, Prelude.is_some, Prelude.Contains, List.list_all, List.position_or_len, Ordering.is_eq}
use Rattle.std.specs.declared.cmp.Ordering.{Ordering}
use Rattle.std.specs.declared.cmp.Ordering.TheVariants.{Less, Equal, Greater}
use Rattle.std.specs.Cmp.{IsTotalOrder, Rules.comparing}
use Rattle.dd_lattice.specs.{declared.position.Cell.Cell, Place.Place, Cells.cell, Cells.shifted, Order.cell_cmp}
use Rattle.dd_lattice.specs.lemmas.{InOrderLaws.cells_equal, InOrderLaws.list_all-in_order, MoveLaws.shifted_by_origin}
use Rattle.dd_pattern.specs.{Reading.Look, Filling.filled, Filling.filling_look}
use Rattle.dd_formula.specs.LocalRule.{LocalRule, is_true, reads_at, cells_at}
use Rattle.dd_forbidden.specs.Breaking.{is_true_at_origin, IsBreaking}
use Rattle.dd_boxes.specs.{Boxes.origin, lemmas.RuleLaws.keeps_at}
use Rattle.dd_certificate.specs.declared.answer.{Listed.Listed, Answer.Answer}
use Rattle.dd_evidence.specs.{Lists.listed, Lists.IsForbiddenList, Answers.IsListCertificate, Answers.all_forbidden}
use Rattle.dd_verify.specs.Holding.{AreReadAt, TellsBreaking, ListClaim, says_list}

abbrev pub ListedBreak : Type 0
ListedBreak = (x : LocalRule) (patterns : List Listed) (a : ℕ) (ss : List ℕ) → IsForbiddenList x patterns → a < x.nodes →
    Contains patterns (listed a ss) ↔ IsBreaking x a ss

-- ---- the index of a cell in a list of cells, or the list's length if the cell isn't in it

cell_total : IsTotalOrder cell_cmp
cell_total = search (comparing, rules) depth 9

abbrev is_cell : Cell → Cell → Bool
is_cell c d = is_eq (cell_cmp d c)

abbrev place_of : List Cell → Cell → ℕ
place_of cs c = position_or_len (is_cell c) cs

same_cell : (x c : Cell) (o : Ordering) → cell_cmp x c ≡ o → is_eq o ≡ true → x ≡ c
same_cell x c Less is h = absurd (cc h)
same_cell x c Equal is h = cells_equal x c is
same_cell x c Greater is h = absurd (cc h)

-- if the index of a cell is below the length of the list, the cell is at this index
stands_first : (x : Cell) (cs : List Cell) (c : Cell) (b : Bool) → is_cell c x ≡ b → (place_of cs c < length cs → get_or cs (place_of cs c) c ≡ c) →
    place_of (x ∷ cs) c < length (x ∷ cs) → get_or (x ∷ cs) (place_of (x ∷ cs) c) c ≡ c
stands_first x cs c true is rest h =
    let here : place_of (x ∷ cs) c ≡ 0 = rw is refl in
    ap (λ n. get_or (x ∷ cs) n c) here ∙ same_cell x c (cell_cmp x c) refl is
stands_first x cs c false is rest h =
    let later : place_of (x ∷ cs) c ≡ suc (place_of cs c) = rw is (omega arith) in
    ap (λ n. get_or (x ∷ cs) n c) later ∙ rest (omega (arith, later, h))

stands : (cs : List Cell) (c : Cell) → place_of cs c < length cs → get_or cs (place_of cs c) c ≡ c
stands [] c h = refl
stands (x ∷ cs) c h = stands_first x cs c (is_cell c x) refl (stands cs c) h

-- each cell of the list has an index below the list's length
within_first : (x : Cell) (cs : List Cell) (i : ℕ) (c d : Cell) (b : Bool) → is_cell c x ≡ b →
    ((j : ℕ) → j < length cs → is_cell c (get_or cs j d) ≡ true → place_of cs c < length cs) →
    i < length (x ∷ cs) → is_cell c (get_or (x ∷ cs) i d) ≡ true → place_of (x ∷ cs) c < length (x ∷ cs)
within_first x cs i c d true here rest h is = let at : place_of (x ∷ cs) c ≡ 0 = rw here refl in omega (arith, at)
within_first x cs zero c d false here rest h is = absurd (cc (here, is))
within_first x cs (suc i) c d false here rest h is =
    let later : place_of (x ∷ cs) c ≡ suc (place_of cs c) = rw here (omega arith) in
    let below : place_of cs c < length cs = rest i (omega (arith, h)) is in
    omega (arith, later, below)

within : (cs : List Cell) (i : ℕ) (c d : Cell) → i < length cs → is_cell c (get_or cs i d) ≡ true → place_of cs c < length cs
within [] i c d h is = absurd (omega arith)
within (x ∷ cs) i c d h is = within_first x cs i c d (is_cell c x) refl (λ j. within cs j c d) h is

-- ---- the symbols that are read

each : (g : Cell → Option ℕ) (cs : List Cell) (ss : List ℕ) → map g cs ≡ map Some ss → (k : ℕ) (d : Cell) → k < length cs → g (get_or cs k d) ≡ slice_get ss k
each g [] ss is k d h = absurd (omega arith)
each g (c ∷ cs) [] is k d h = absurd (cc is)
each g (c ∷ cs) (s ∷ ss) is zero d h = cc is
each g (c ∷ cs) (s ∷ ss) is (suc k) d h = each g cs ss (cc is) k d (omega (arith, h))

as_many : (g : Cell → Option ℕ) (cs : List Cell) (ss : List ℕ) → map g cs ≡ map Some ss → length ss ≡ length cs
as_many g cs ss is = sym (length-map ss Some) ∙ (sym (ap length is) ∙ length-map cs g)

module _ (x : LocalRule) (look : Look) (v : Place) (a : ℕ) (ss : List ℕ) (read : AreReadAt x look v a ss) where
  abbrev cs : List Cell
  cs = cells_at x a

  abbrev those : Look
  those = filling_look (filled cs ss)

  many : length ss ≡ length cs
  many = as_many (λ c. look (shifted v c)) cs ss read

  some_within : (c : Cell) (o : Option ℕ) → those c ≡ o → is_some o ≡ true → place_of cs c < length ss
  some_within c (Some s) is h = slice_get_within ss (place_of cs c) s is
  some_within c None is h = absurd (cc h)

  seen_here : (c : Cell) → is_some (those c) ≡ true → those c ≡ look (shifted v c)
  seen_here c h =
      let below : place_of cs c < length cs = (let le = some_within c (those c) refl h in let same = many in omega (arith, le, same)) in
      sym (each (λ d. look (shifted v d)) cs ss read (place_of cs c) c below) ∙ ap (λ d. look (shifted v d)) (stands cs c below)

  seen_same : (c : Cell) → is_some (those (shifted origin c)) ≡ true → those (shifted origin c) ≡ look (shifted v c)
  seen_same c h =
      let here = shifted_by_origin c in
      ap those here ∙ seen_here c (sym (ap (λ d. is_some (those d)) here) ∙ h)

  given_at : (i : ℕ) (c : Cell) → i < length cs → is_some (those (shifted origin (get_or cs i c))) ≡ true
  given_at i c h =
      let d = get_or cs i c in
      let below : place_of cs d < length ss = (let le = within cs i d c h (ap is_eq (tied_itself cell_total d)) in let same = many in omega (arith, le, same)) in
      ap (λ e. is_some (those e)) (shifted_by_origin d) ∙ ap is_some (slice_get-get_or ss (place_of cs d) 0 below)

  all_given : list_all (λ c. is_some (those (shifted origin c))) (reads_at x a) ≡ true
  all_given =
      sym (list_all-in_order (λ c. is_some (those (shifted origin c))) (reads_at x a))
      ∙ list_all-from_AllPass (λ c. is_some (those (shifted origin c))) cs (λ i c h. given_at i c h)

  pub says_kept : is_true x (cell v a) look ≡ is_true_at_origin x a ss
  says_kept = sym (keeps_at x those look origin v a seen_same all_given)

pub tells_breaking : ListedBreak → (x : LocalRule) (patterns : List Listed) → IsForbiddenList x patterns → TellsBreaking x patterns
tells_breaking listed_break x patterns is look v a ss below read allowed =
    let same = says_kept x look v a ss read in
    let told = listed_break x patterns a ss is below in
    (λ h. told.1 (record { allowed = allowed; broken = sym same ∙ h }), λ there. same ∙ (told.0 there).broken)

pub list_claims : ListedBreak → (x : LocalRule) (a : Answer) → IsListCertificate x a → ListClaim x a
list_claims broken x a (all_forbidden {patterns = patterns} h) = says_list (tells_breaking broken x patterns h)
