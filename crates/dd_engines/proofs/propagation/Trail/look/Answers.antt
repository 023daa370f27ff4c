use Rattle.std.proofs.Common.{◌≡◌, ◌<◌, List, [], length, get_or, sym, subst, arith}
use Rattle.dd_clause.specs.{declared.clause.Literal.Literal, Clauses.IsClauseInRange, Clauses.IsLiteralInRange}
use Rattle.dd_derivation.specs.declared.propagation.Finding.TheVariants.{Falsified, Forced}
use Rattle.dd_derivation.specs.Derivations.{finding}
use Rattle.dd_engines.specs.propagation.Following.{is_false_by}
use Rattle.dd_engines.proofs.Following.{forced_has, follows_more, conflicts_at}
use Rattle.dd_engines.proofs.propagation.Trail.look.Goals as goal

within : (c : goal.After-struct_known-1) → IsLiteralInRange (length c.args.self.now.values.items) c.in-Forced.literal
within c =
    let found : finding (is_false_by c.args.self.now.values.items) c.in-Some.clause.now ≡ Forced c.in-Forced.literal = cc in
    let range : IsClauseInRange (length c.args.self.now.values.items) c.in-Some.clause.now =
    subst (IsClauseInRange (length c.args.self.now.values.items)) (sym (c.in-Some.ensures.lookup.3.1 [])) (c.requires.in_range c.args.number [] c.in-Some.ensures.lookup.3.0) in
    forced_has (IsLiteralInRange (length c.args.self.now.values.items)) (is_false_by c.args.self.now.values.items) c.in-Some.clause.now c.in-Forced.literal range found

pub overflow_sub-literal : goal.overflow_sub-literal
overflow_sub-literal c = (within c).0

pub index_mut-requires : goal.index_mut-requires
index_mut-requires c = let w = within c in omega (arith, w.0, w.1)

pub returns-in-Falsified-clause-looked : goal.returns-in-Falsified-clause-looked
returns-in-Falsified-clause-looked c =
    let lt : c.args.number < length c.args.clauses.now = c.in-Some.ensures.lookup.3.0 in
    let found : finding (is_false_by c.args.self.now.values.items) (get_or c.args.clauses.now c.args.number []) ≡ Falsified = subst (λ (x : List Literal). finding (is_false_by c.args.self.now.values.items) x ≡ Falsified) (c.in-Some.ensures.lookup.3.1 []) cc in
    rw c.in-Falsified.is (conflicts_at c.args.clauses.now c.args.self.now.entries.items c.args.self.now.values.items c.args.number c.requires.follows lt found)

pub returns-in_ok-push-in-Forced-clause-looked : goal.returns-in_ok-push-in-Forced-clause-looked
returns-in_ok-push-in-Forced-clause-looked c =
    let lt : c.args.number < length c.args.clauses.now = c.in-Some.ensures.lookup.3.0 in
    let found : finding (is_false_by c.args.self.now.values.items) (get_or c.args.clauses.now c.args.number []) ≡ Forced c.in-Forced.literal = subst (λ (x : List Literal). finding (is_false_by c.args.self.now.values.items) x ≡ Forced c.in-Forced.literal) (c.in-Some.ensures.lookup.3.1 []) cc in
    rw c.in_ok-push-in-Forced.ensures.items (follows_more c.args.clauses.now c.args.self.now.entries.items c.args.self.now.values.items c.args.number c.in-Forced.literal c.requires.follows lt (c.requires.in_range c.args.number [] lt) found)
