use Rattle.std.proofs.Common.{◌≡◌, ◌<◌, ◌^◌, ◌+◌, ◌/◌, ℕ, Bool, true, List, length, map, replicate, get_or, subst, sym, ap, ◌∙◌, arith}
use Rattle.std.proofs.lemmas.{Grind.common_steps, List.length-map, List.Elements.All-more}
use Rattle.dd_clause.specs.declared.clause.Literal.{Literal}
use Rattle.dd_engines.specs.walking.Truths.{HasMarks, true_count}
use Rattle.dd_engines.proofs.Counting.{all_marked}
use Rattle.dd_engines.proofs.truths.Truths.new.Goals as goal

pub loop-clause-preserved : goal.loop-clause-preserved
loop-clause-preserved c =
    let P : List Literal → Type 0 = λ clause. length clause < 2 ^ 64 in
    let same : c.literals.result.now ≡ get_or c.args.clauses.now c.loop-clause.clause-index c.clause-item.result = c.literals.ensures ∙ c.clause-item.is in
    record {
      counts = grind (arith, common_steps);
      short = All-more P c.args.clauses.now c.loop-clause.clause-index c.clause-item.result (omega arith) c.loop-clause.invariant.short (subst P same c.count_true.ensures.short);
    }

pub returns-clause-listed : goal.returns-clause-listed
returns-clause-listed c =
    let counts = c.loop-clause.counts.items in
    let all : counts ≡ map (true_count c.args.values.now) c.args.clauses.now = grind (arith, common_steps) in
    let size = ap length all ∙ length-map c.args.clauses.now (true_count c.args.values.now) in
    let marks : c.in_ok-vec.field-0.items ≡ replicate (length c.args.clauses.now / 32 + 1) true = grind (arith, common_steps) in
    subst (λ (marks : List Bool). HasMarks counts marks 0)
    (sym (marks ∙ ap (λ (n : ℕ). replicate (n / 32 + 1) true) (sym size))) (all_marked counts)
