use Rattle.std.proofs.Common.{◌≡◌, ◌+◌, ◌-◌, ◌%◌, ℕ, Bool, false, List, Some, length, get_or, ap, refl, sym, subst, ◌∙◌, arith}
use Rattle.std.proofs.lemmas.{List.length-set, Option.slice_get-get_or}
use Rattle.dd_clause.specs.declared.clause.Literal.{Literal}
use Rattle.dd_engines.specs.Walks.{NoneBefore, values_after, made_true}
use Rattle.dd_engines.proofs.Walking.{FoundClause, found_clause, at_place, rem_within, none_more, none_at_end, reached_more, first_at}
use Rattle.dd_engines.proofs.Cycling.{kept_reached, none_ever, period_kept}
use Rattle.dd_engines.proofs.walk.first_found.Goals as goal

found : (c : goal.After-flip-arg-1) → FoundClause c.args.cnf.now.clauses c.first.new.self.values.items c.literals-literals.result.now
found c =
    found_clause c.args.cnf.now.clauses c.first.new.self.values.items _ _ _ c.in-Some.number c.literals-literals.result.now (rw c.clauses-clauses.ensures.value at c.first.ensures.walks) c.in-Some.ensures.first
    (at_place c.clauses-clauses.result.now c.args.cnf.now.clauses c.in-Some.number c.literals-literals.result.now c.index-clauses-number.result c.literals-literals.ensures c.index-clauses-number.is c.clauses-clauses.ensures.value)

pub returns-in_default : goal.returns-in_default
returns-in_default c =
    let values = c.first.new.self.values.items in
    let same : values ≡ c.loop-k.walk.values.items = c.first.ensures.values in
    let long : length values ≡ c.args.cnf.now.variables = ap (λ (v : List Bool). length v) same ∙ c.loop-k.invariant.long in
    let reached : values_after c.args.cnf.now c.loop-k.k ≡ Some values = c.loop-k.invariant.reached ∙ ap (λ (v : List Bool). Some v) (sym same) in
    rw c.into_assignment.ensures
    (first_at c.args.cnf.now values _ _ _ c.loop-k.k c.args.flips (rw c.clauses-clauses.ensures.value at c.first.ensures.walks) long c.in_default.ensures.first (omega arith) reached c.loop-k.invariant.none_before)

pub flip-requires-clause-listing : goal.flip-requires-clause-listing
flip-requires-clause-listing c =
    let long : length c.first.new.self.values.items ≡ c.args.cnf.now.variables = ap (λ (v : List Bool). length v) c.first.ensures.values ∙ c.loop-k.invariant.long in
    rw (long, c.clauses-clauses.ensures.value) c.requires.listing

pub flip-requires-clause-range : goal.flip-requires-clause-range
flip-requires-clause-range c =
    (found c).range (c.loop-k.k % length c.literals-literals.result.now) _ (rem_within c.loop-k.k (length c.literals-literals.result.now) c.if-is_empty.ensures)

pub flip-requires-clause-other : goal.flip-requires-clause-other
flip-requires-clause-other c =
    (found c).are_false (c.loop-k.k % length c.literals-literals.result.now) _ (rem_within c.loop-k.k (length c.literals-literals.result.now) c.if-is_empty.ensures)

pub loop-k-preserved : goal.loop-k-preserved
loop-k-preserved c =
    let literals = c.literals-literals.result.now in
    let values = c.first.new.self.values.items in
    let same : values ≡ c.loop-k.walk.values.items = c.first.ensures.values in
    let started : values_after c.args.cnf.now c.loop-k.k ≡ Some values = c.loop-k.invariant.reached ∙ ap (λ (v : List Bool). Some v) (sym same) in
    let first : FoundClause c.args.cnf.now.clauses values literals =
    found_clause c.args.cnf.now.clauses values _ _ _ c.in-Some.number literals (rw c.clauses-clauses.ensures.value at c.first.ensures.walks) c.in-Some.ensures.first
    (at_place c.clauses-clauses.result.now c.args.cnf.now.clauses c.in-Some.number literals c.index-clauses-number.result c.literals-literals.ensures c.index-clauses-number.is c.clauses-clauses.ensures.value) in
    let place : ℕ = c.loop-k.k % length literals in
    let none : Literal = record { variable = 0; positive = false } in
    let literal : Literal = get_or literals place none in
    let at = slice_get-get_or literals place none (rem_within c.loop-k.k (length literals) c.if-is_empty.ensures) in
    let made : c.flip.new.self.values.items ≡ made_true values literal = c.flip.ensures.values in
    record {
      walks = rw c.clauses-clauses.ensures.value at c.flip.ensures.walks;
      long = ap (λ (v : List Bool). length v) made ∙ length-set values (literal.variable - 1) literal.positive ∙ ap (λ (v : List Bool). length v) same ∙ c.loop-k.invariant.long;
      reached = reached_more c.args.cnf.now values c.loop-k.k literals literal started first.first at ∙ ap (λ (v : List Bool). Some v) (sym made);
      landmark = rw (c.flip.ensures.landmark, c.flip.ensures.flips)
          (kept_reached c.args.cnf.now c.first.new.self.landmark c.renew.new.self values c.loop-k.k (rw c.as_slice.ensures.value at c.renew.ensures.kept) (rw c.first.ensures.landmark c.loop-k.invariant.landmark) started);
      period = rw c.flip.ensures.flips
          (period_kept c.args.cnf.now c.first.new.self.landmark c.renew.new.self values c.loop-k.k c.loop-k.period c.period_with-period.result values literals
          (rw c.first.ensures.landmark c.loop-k.invariant.period) (rw c.as_slice.ensures.value at c.renew.ensures.kept) c.period_with-period.ensures started first.first);
      counted = c.flip.ensures.counted;
      none_before = none_more c.args.cnf.now values c.loop-k.k literals started first.first c.loop-k.invariant.none_before;
    }

pub returns-then-is_back : goal.returns-then-is_back
returns-then-is_back c =
    let values = c.first.new.self.values.items in
    let same : values ≡ c.loop-k.walk.values.items = c.first.ensures.values in
    let started : values_after c.args.cnf.now c.loop-k.k ≡ Some values = c.loop-k.invariant.reached ∙ ap (λ (v : List Bool). Some v) (sym same) in
    none_ever c.args.cnf.now c.first.new.self.landmark values c.loop-k.period c.loop-k.k (rw c.first.ensures.landmark c.loop-k.invariant.period) (c.if-is_back.ensures refl)
    (rw (c.first.ensures.landmark, c.first.ensures.values) c.loop-k.invariant.counted) (rw c.first.ensures.landmark c.loop-k.invariant.landmark) started c.loop-k.invariant.none_before (c.args.flips + 1)

pub returns-in-Some-first : goal.returns-in-Some-first
returns-in-Some-first c =
    let reached : values_after c.args.cnf.now c.loop-k.k ≡ Some c.first-2.new.self.values.items = c.loop-k.invariant.reached ∙ ap (λ (v : List Bool). Some v) (sym c.first-2.ensures.values) in
    let end : c.loop-k.k ≡ c.args.flips = omega arith in
    subst (λ (n : ℕ). NoneBefore c.args.cnf.now (n + 1)) end
    (none_at_end c.args.cnf.now c.first-2.new.self.values.items _ _ _ c.loop-k.k _ (rw c.clauses-clauses.ensures.value at c.first-2.ensures.walks) c.in-Some-first.ensures.first reached c.loop-k.invariant.none_before)

pub returns-in-None : goal.returns-in-None
returns-in-None c =
    let values = c.first-2.new.self.values.items in
    let same : values ≡ c.loop-k.walk.values.items = c.first-2.ensures.values in
    let long : length values ≡ c.args.cnf.now.variables = ap (λ (v : List Bool). length v) same ∙ c.loop-k.invariant.long in
    let reached : values_after c.args.cnf.now c.loop-k.k ≡ Some values = c.loop-k.invariant.reached ∙ ap (λ (v : List Bool). Some v) (sym same) in
    rw c.into_assignment-in-None.ensures
    (first_at c.args.cnf.now values _ _ _ c.loop-k.k c.args.flips (rw c.clauses-clauses.ensures.value at c.first-2.ensures.walks) long c.in-None.ensures.first (omega arith) reached c.loop-k.invariant.none_before)
