use Rattle.std.proofs.Common.{◌≡◌, List, Decides, ap, subst, true}
use Rattle.std.proofs.lemmas.Slice.Eq.{slice_eq-Decides}
use Rattle.dd_clause.specs.declared.clause.Literal.{Literal}
use Rattle.dd_derivation.specs.Derivations.{same_literal, is_among}
use Rattle.dd_derivation.specs.lemmas.Soundness.{same_literal-eq, same_literal-refl}
use Rattle.dd_elimination.proofs.reduction.have_same_literals.Goals as goal

same_decides : (a b : Literal) → Decides (same_literal a b) (a ≡ b)
same_decides a b = (same_literal-eq a b, λ e. subst (λ (l : Literal). same_literal a l ≡ true) e (same_literal-refl a))

pub returns-then-eq : goal.returns-then-eq
returns-then-eq c t l =
    let first = c.args.first.now in
    let second = c.args.second.now in
    ap (λ (literals : List Literal). is_among literals l) ((slice_eq-Decides same_decides first second c.eq.result c.eq.ensures).0 t)
