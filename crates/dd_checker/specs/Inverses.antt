-- What a CONJUGATE says about any configuration, periodic or not.
use Rattle.std.specs.Prelude.{ℕ, ◌≡◌, Bool, nat_eq, codes, Some, IsSomeAnd, slice_get}
use Rattle.std.specs.List.{starts_with}
use Rattle.dd_lattice.specs.Place.{Place}
use Rattle.dd_pattern.specs.Reading.{Look}
use Rattle.dd_formula.specs.{LocalRule.LocalRule, Living.Obeys, declared.automaton.Automaton.Automaton}
use Rattle.dd_maps.specs.Images.{KeepsAt, GivesBackAt, AtEachNode}
use Rattle.dd_certificate.specs.{declared.answer.Answer.Answer, Text.verdict_text}
use Rattle.dd_query.specs.declared.queries.Query.{Query}
use Rattle.dd_script.specs.{Parts.Parts, Questions.query_at}

-- the answer's first line has CONJUGATE after the query's number
abbrev pub is_conjugate : Answer → Bool
is_conjugate a = starts_with nat_eq (verdict_text a) (codes "CONJUGATE")

-- the query asks whether two automata are inverse maps between the configurations that obey one rule and those that obey another
pub data IsConjugacy : Query → Type 0 where
  a_conjugacy : {there back from to : ℕ} → IsConjugacy (Query.Conjugate there back from to)

-- the query with this number, counted from 1 (0 counts as 1), asks about a conjugacy (see `IsConjugacy`)
abbrev pub IsConjugacyAt : Parts → ℕ → Type 0
IsConjugacyAt s number = IsSomeAnd (query_at s number) IsConjugacy

-- The image of the configuration under f gives each cell the value of f there. At each node of the position v, the image has an allowed symbol, y is
-- true of the image, and the value of g on the image is the configuration's symbol.
pub record IsCarriedAt (y : LocalRule) (f g : Automaton) (look : Look) (v : Place) : Type 0 where
  pub keeps : AtEachNode y.nodes (KeepsAt f y look) v
  pub gives_back : AtEachNode y.nodes (GivesBackAt g f look) v

-- If the configuration obeys x everywhere, then, at v, its image under f obeys y, and g carries this image back (see `IsCarriedAt`). If the
-- configuration obeys y everywhere, then, at v, its image under g obeys x, and f carries this image back.
pub record AreInverseAt (x y : LocalRule) (f g : Automaton) (look : Look) (v : Place) : Type 0 where
  pub there : Obeys x look → IsCarriedAt y f g look v
  pub back : Obeys y look → IsCarriedAt x g f look v

-- the query asks about a conjugacy; the rules and automata that it names exist, and `AreInverseAt` holds for them
pub data AreInverseFor (s : Parts) (look : Look) (v : Place) : Query → Type 0 where
  are_inverse : {there back from to : ℕ} {x y : LocalRule} {f g : Automaton} → slice_get s.rules from ≡ Some x → slice_get s.rules to ≡ Some y →
      slice_get s.automata there ≡ Some f → slice_get s.automata back ≡ Some g → AreInverseAt x y f g look v → AreInverseFor s look v (Query.Conjugate there back from to)

-- `AreInverseFor` holds for the query with this number, counted from 1 (0 counts as 1)
abbrev pub AreInverseIn : Parts → ℕ → Look → Place → Type 0
AreInverseIn s number look v = IsSomeAnd (query_at s number) (AreInverseFor s look v)
