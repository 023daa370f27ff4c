-- What follows for any configuration, periodic or not, if the claim of a YES is true.
use Rattle.std.proofs.Common.{◌≡◌, ℕ, ◌-◌, ◌<◌, Bool, true, false, List, refl, ap, sym, subst, ◌∙◌, arith, Some, None}
use Rattle.std.proofs.lemmas.Bool.{and_from, lt-ltb, ltb-true, false≢true}
use Rattle.std.proofs.lemmas.Option.{slice_get_within, get_or_from_slice_get}
use Rattle.std.specs.Prelude.{Option, IsSomeAnd, IfSome, cond, ◌&&◌, is_some, nat_lt, slice_get}
use Rattle.std.specs.List.{Contains}
use Rattle.dd_lattice.specs.{declared.position.Cell.Cell, Place.Place}
use Rattle.dd_topology.specs.Sets.{row_allows}
use Rattle.dd_pattern.specs.Reading.{Look}
use Rattle.dd_expansion.specs.Placed.{is_flat}
use Rattle.dd_formula.specs.{LocalRule.LocalRule, LocalRule.rule_allows, Allowed.AreAllowed}
use Rattle.dd_boxes.specs.{Goals.GoalOf, Goals.breaks, Fillings.IsConfiguration, Boxes.HoldsNowhere}
use Rattle.dd_meanings.specs.Made.{IsRuleOf}
use Rattle.dd_query.specs.declared.queries.Query.{Query}
use Rattle.dd_script.specs.{Parts.Parts, Questions.asked, Questions.query_at, Asking.AreOf, Asking.AreSound}
use Rattle.dd_derivation.specs.declared.step.Step.{Step}
use Rattle.dd_certificate.specs.declared.answer.Answer.{Answer}
use Rattle.dd_question.specs.Questions.{Asked}
use Rattle.dd_verify.specs.{Holding.says_nowhere, Holding.says_equal, Certificates.ClaimOf}
use Rattle.dd_checker.specs.Claims.{ClaimFor, Claim}
use Rattle.dd_checker.specs.Lifted.{is_yes, whole_look, IsWhole, IsNotAt, IsAskedNotAt, of_box, of_equality, IsQueryNotAt}
use Rattle.dd_certificate.specs.declared.answer.Answer.TheVariants as answer
use Rattle.dd_question.specs.Questions as question

-- if the option has an item for which P holds, and P implies Q for this item, then the option has an item for which Q holds
pub some_then : {X : Type 0} (o : Option X) (P Q : X → Type 0) → ((x : X) → o ≡ Some x → P x → Q x) → IsSomeAnd o P → IsSomeAnd o Q
some_then (Some x) P Q h p = h x refl p
some_then None P Q h p = p

-- if x is the item of a list at some index, the list contains x
stands_at : (xs : List Query) (n : ℕ) (x : Query) → slice_get xs n ≡ Some x → Contains xs x
stands_at xs n x is = (n, slice_get_within xs n x is, get_or_from_slice_get xs n x x is)

-- the answer is YES: to one box question, or to both of an equality
data SaysYes : Answer → Type 0 where
  one : {n : ℕ} {steps : List Step} → SaysYes (answer.Yes n steps)
  both : {n m : ℕ} {steps others : List Step} → SaysYes (answer.YesBoth n m steps others)

says_yes : (a : Answer) → is_yes a ≡ true → SaysYes a
says_yes (answer.Yes n steps) told = one
says_yes (answer.YesBoth n m steps others) told = both
says_yes _ told = absurd (false≢true told)

module _ (s : Parts) (nodes : ℕ) (symbol_of : Cell → ℕ) (whole : IsWhole s nodes symbol_of) where
  abbrev look : Look
  look = whole_look s.known.setting.topology.dimension nodes symbol_of

  pub look_allowed : (x : LocalRule) → IsRuleOf s.known.setting x → AreAllowed x look
  look_allowed x of c = cases (is_flat s.known.setting.topology.dimension c.position) (nat_lt c.node nodes) refl refl where
    cases : (flat low : Bool) → is_flat s.known.setting.topology.dimension c.position ≡ flat → nat_lt c.node nodes ≡ low →
        IfSome (cond (flat && low) (Some (symbol_of c)) None) (λ t. rule_allows x c.node t ≡ true)
    cases true true flat low =
        ap (λ rows. row_allows rows c.node (symbol_of c)) of.allowed ∙ whole.allowed c flat (ltb-true c.node nodes low)
    cases true false flat low = tt
    cases false low flat is = tt

  pub look_whole : (x : LocalRule) → IsRuleOf s.known.setting x → IsConfiguration x look
  look_whole x of = record {
    everywhere = λ c flat node.
        (let there : is_flat s.known.setting.topology.dimension c.position ≡ true = subst (λ d. is_flat d c.position ≡ true) of.dimension flat in
        let below : c.node < nodes = (let same = of.nodes in let theirs = whole.same_nodes in omega (arith, node, same, theirs)) in
        ap (λ b. is_some (cond b (Some (symbol_of c)) None))
        (and_from (is_flat s.known.setting.topology.dimension c.position) (nat_lt c.node nodes) there (lt-ltb c.node nodes below)));
    allowed = look_allowed x of;
  }

  module _ (v : Place) (flat : is_flat s.known.setting.topology.dimension v ≡ true) where
    pub not_at : (x : LocalRule) (g : GoalOf) (n : ℕ) → IsRuleOf s.known.setting x → HoldsNowhere x g n → IsNotAt x g look v
    not_at x g n of nowhere obeys there =
        let level : is_flat x.dimension v ≡ true = subst (λ d. is_flat d v ≡ true) (sym of.dimension) flat in
        nowhere.configurations look (look_whole x of) obeys v level there

    asked_not_at : (a : Answer) → SaysYes a → (k : Asked) → AreOf s.known k → ClaimOf k a → IsAskedNotAt k look v
    asked_not_at a one (question.box x g) ok (says_nowhere {n = n} claim) = of_box (not_at x g n ok claim)
    asked_not_at a both (question.equality x y) ok (says_equal {n = n} {m = m} left right) = of_equality (not_at x (breaks y) n ok.0 left) (not_at y (breaks x) m ok.1 right)
    asked_not_at _ _ _ ok claim = elim claim [ ]

    -- if what a YES claims is true, and the configuration obeys the premise of a box question that the YES answers, then the goal of this question
    -- does not hold at v
    pub lifted_law : AreSound s → (number : ℕ) (a : Answer) → is_yes a ≡ true → Claim s number a → IsQueryNotAt s number look v
    lifted_law sound number a told h =
        some_then (query_at s number) (λ q. ClaimFor s q a) (λ q. IsSomeAnd (asked s q) (λ k. IsAskedNotAt k look v))
        (λ q is claim.
        some_then (asked s q) (λ k. ClaimOf k a) (λ k. IsAskedNotAt k look v)
        (λ k asks holds. asked_not_at a (says_yes a told) k (sound q k (stands_at s.queries (number - 1) q is) asks).of holds) claim)
        h
