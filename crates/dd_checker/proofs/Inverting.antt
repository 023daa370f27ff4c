-- What follows for any configuration, periodic or not, if the claim of a CONJUGATE is true.
use Rattle.std.proofs.Common.{◌≡◌, ℕ, ◌<◌, true, refl, sym, subst, ◌∙◌, Some, None}
use Rattle.std.proofs.lemmas.Bool.{false≢true}
use Rattle.std.specs.Prelude.{Option, IsSomeAnd, IfSome, slice_get}
use Rattle.dd_lattice.specs.{declared.position.Cell.Cell, Cells.cell, Place.Place}
use Rattle.dd_pattern.specs.Reading.{Look, HasSymbolsBelow}
use Rattle.dd_expansion.specs.Placed.{is_flat}
use Rattle.dd_formula.specs.{LocalRule.LocalRule, Living.Obeys, declared.automaton.Automaton.Automaton, lemmas.AllowedLaws.look_below}
use Rattle.dd_maps.specs.Images.{Differ, HasSymbols, AtEachNode, GivesBackAt}
use Rattle.dd_maps.specs.lemmas.PairLaws.{image_differs, identity_differs}
use Rattle.dd_maps.specs.lemmas.Claims.{symbol_at, image_keeps, gives_back}
use Rattle.dd_boxes.specs.Boxes.{HoldsNowhere}
use Rattle.dd_meanings.specs.Made.{IsRuleOf, IsAutomatonOf}
use Rattle.dd_pairs.specs.{Comparisons.image, Comparisons.change, Comparisons.pair_of, Comparisons.goal_of, Queries.of_four}
use Rattle.dd_pairs.specs.lemmas.{ComparisonLaws.rule_over, ComparisonLaws.automaton_over, QueryLaws.item_at}
use Rattle.dd_certificate.specs.declared.answer.Answer.{Answer}
use Rattle.dd_query.specs.declared.queries.Query.{Query}
use Rattle.dd_script.specs.{Parts.Parts, Kept.IsScriptOf, Questions.query_at, Questions.conjugacy_question}
use Rattle.dd_verify.specs.{Holding.says_conjugate, Holding.says_broken, Holding.says_no_more, Certificates.ClaimOf}
use Rattle.dd_checker.specs.{Claims.ClaimFor, Claims.Claim, Lifted.whole_look, Lifted.IsWhole}
use Rattle.dd_checker.specs.Inverses.{is_conjugate, IsConjugacy, a_conjugacy, IsConjugacyAt, IsCarriedAt, AreInverseAt, AreInverseFor, are_inverse, AreInverseIn}
use Rattle.dd_checker.proofs.Lifting.{look_allowed, look_whole, not_at}

-- the four items exist, and P holds for the value of h on them
record Found {X Y F G Z : Type 0} (h : X → Y → F → G → Z) (P : Z → Type 0) (o : Option X) (p : Option Y) (q : Option F) (r : Option G) : Type 0 where
  x : X
  y : Y
  f : F
  g : G
  from : o ≡ Some x
  to : p ≡ Some y
  there : q ≡ Some f
  back : r ≡ Some g
  says : P (h x y f g)

found : {X Y F G Z : Type 0} (h : X → Y → F → G → Z) (P : Z → Type 0) (o : Option X) (p : Option Y) (q : Option F) (r : Option G) →
    IsSomeAnd (of_four h o p q r) P → Found h P o p q r
found h P (Some x) (Some y) (Some f) (Some g) k = record { x = x; y = y; f = f; g = g; from = refl; to = refl; there = refl; back = refl; says = k }
found h P (Some x) (Some y) (Some f) None k = absurd k
found h P (Some x) (Some y) None r k = absurd k
found h P (Some x) None q r k = absurd k
found h P None p q r k = absurd k

-- if P holds for the item of `o`, whenever there is one, and x is this item, then P holds for x
of_item : {X : Type 0} (P : X → Type 0) (o : Option X) (x : X) → IfSome o P → o ≡ Some x → P x
of_item P o x told is = subst (λ p. IfSome p P) is told

module _ (s : Parts) (kept : IsScriptOf s) (nodes : ℕ) (symbol_of : Cell → ℕ) (whole : IsWhole s nodes symbol_of) (v : Place)
    (flat : is_flat s.known.setting.topology.dimension v ≡ true) where
  abbrev look : Look
  look = whole_look s.known.setting.topology.dimension nodes symbol_of

  module _ (x y : LocalRule) (f g : Automaton) (ofx : IsRuleOf s.known.setting x) (ofy : IsRuleOf s.known.setting y) (off : IsAutomatonOf s.known.setting f) where
    has : HasSymbols s.known.setting.topology.nodes s.known.setting.sets.symbols look v
    has a below =
        let low : HasSymbolsBelow s.known.setting.sets.symbols look =
        subst (λ k. HasSymbolsBelow k look) (ofx.symbols ∙ sym kept.known.setting.alphabet) (look_below x ofx.rule look (look_allowed s nodes symbol_of whole x ofx)) in
        let level : is_flat x.dimension v ≡ true = subst (λ d. is_flat d v ≡ true) (sym ofx.dimension) flat in
        let within : a < x.nodes = subst (λ n. a < n) (sym ofx.nodes) below in
        symbol_at s.known.setting.sets.symbols look (cell v a) low ((look_whole s nodes symbol_of whole x ofx).everywhere (cell v a) level within)

    carries : (n m : ℕ) → HoldsNowhere x (goal_of s.known.setting (image x f y)) n → HoldsNowhere x (goal_of s.known.setting (change x g f)) m →
        Obeys x look → IsCarriedAt y f g look v
    carries n m first second obeys =
        let grid = s.known.setting.topology in
        let sets = s.known.setting.sets in
        let over = rule_over s.known.setting kept.known.setting y ofy in
        let fits = (automaton_over s.known.setting kept.known.setting f off).fits in
        let one = pair_of s.known.setting (image x f y) in
        let other = pair_of s.known.setting (change x g f) in
        record {
          keeps = image_keeps f y look v
              (λ broken. not_at s nodes symbol_of whole v flat x (goal_of s.known.setting (image x f y)) n ofx first obeys
              (subst (λ k. Differ k one.left one.right look v) (sym ofx.nodes) ((image_differs grid sets y over f fits look v).1 broken)));
          gives_back = subst (λ k. AtEachNode k (GivesBackAt g f look) v) (sym ofy.nodes)
              (gives_back grid.nodes sets.symbols g f look v has
              (λ changed. not_at s nodes symbol_of whole v flat x (goal_of s.known.setting (change x g f)) m ofx second obeys
              (subst (λ k. Differ k other.left other.right look v) (sym ofx.nodes) ((identity_differs grid sets g f look v has).1 changed))));
        }

  -- what a CONJUGATE claims gives both directions: f carries configurations from x to y, and g carries them from y to x
  inverse : (x y : LocalRule) (f g : Automaton) → IsRuleOf s.known.setting x → IsRuleOf s.known.setting y → IsAutomatonOf s.known.setting f →
      IsAutomatonOf s.known.setting g → (a : Answer) → is_conjugate a ≡ true → ClaimOf (conjugacy_question s.known.setting x y f g) a → AreInverseAt x y f g look v
  inverse x y f g ofx ofy off ofg _ told (says_conjugate {n1 = n1} {n2 = n2} {n3 = n3} {n4 = n4} one two three four) = record {
    there = carries x y f g ofx ofy off n1 n3 one three;
    back = carries y x g f ofy ofx ofg n2 n4 two four;
  }
  inverse x y f g ofx ofy off ofg _ told (says_broken part witness) = absurd (false≢true told)
  inverse x y f g ofx ofy off ofg _ told says_no_more = absurd (false≢true told)

  for_query : (a : Answer) → is_conjugate a ≡ true → (q : Query) → IsConjugacy q → ClaimFor s q a → AreInverseFor s look v q
  for_query a told _ (a_conjugacy {there = there} {back = back} {from = from} {to = to}) claim =
      let k = found (conjugacy_question s.known.setting) (λ j. ClaimOf j a) (slice_get s.rules from) (slice_get s.rules to) (slice_get s.automata there)
      (slice_get s.automata back) claim in
      let ofx = of_item (IsRuleOf s.known.setting) (slice_get s.rules from) k.x (item_at kept.rules from) k.from in
      let ofy = of_item (IsRuleOf s.known.setting) (slice_get s.rules to) k.y (item_at kept.rules to) k.to in
      let off = of_item (IsAutomatonOf s.known.setting) (slice_get s.automata there) k.f (item_at kept.automata there) k.there in
      let ofg = of_item (IsAutomatonOf s.known.setting) (slice_get s.automata back) k.g (item_at kept.automata back) k.back in
      are_inverse k.from k.to k.there k.back (inverse k.x k.y k.f k.g ofx ofy off ofg a told k.says)

  -- if what a CONJUGATE claims is true, the two automata are inverse maps at v, as `AreInverseIn` says
  pub inverse_law : (number : ℕ) (a : Answer) → is_conjugate a ≡ true → IsConjugacyAt s number → Claim s number a → AreInverseIn s number look v
  inverse_law number a told asks claim = at (query_at s number) asks claim
    where
      at : (o : Option Query) → IsSomeAnd o IsConjugacy → IsSomeAnd o (λ q. ClaimFor s q a) → IsSomeAnd o (AreInverseFor s look v)
      at (Some q) is claim = for_query a told q is claim
      at None is claim = absurd is
