use Rattle.std.proofs.Common.{◌≡◌, ◌+◌, ◌-◌, ◌<◌, length, false, get_or, refl, arith}
use Rattle.dd_clause.specs.Clauses.{IsLiteralInRange}
use Rattle.dd_engines.specs.declared.analysis.Entry.{Entry}
use Rattle.dd_engines.proofs.Analysing.{leads_conflict, leads_past, leads_forced, leads_all, leads_reversed, entry_in_range, marked_clause}
use Rattle.dd_engines.proofs.analysis.walk_back.Goals as goal

none : Entry
none = record { literal = record { variable = 0; positive = false }; number = 0 }

pub loop-i-init : goal.loop-i-init
loop-i-init c = record {
  leads = rw (c.in_ok-push.ensures.items, c.new-hints.ensures.items)
      (leads_conflict c.args.clauses.now c.args.entries.now c.mark.new.marked c.args.conflict c.requires.conflict
      (marked_clause c.args.clauses.now c.args.conflict c.index-clauses-conflict.result c.literals.result.now c.mark.new.marked c.requires.conflict.within c.index-clauses-conflict.is c.literals.ensures c.mark.ensures.marks));
  long = refl;
}

pub overflow_sub-entry : goal.overflow_sub-entry
unfolding none
overflow_sub-entry c =
    let w : IsLiteralInRange (length c.args.marked.now) (get_or c.args.entries.now (c.loop-i.i - 1) none).literal = entry_in_range (length c.args.marked.now) c.args.clauses.now c.args.entries.now (c.loop-i.i - 1) none c.requires.in_range c.requires.trail (omega (arith, c.loop-i-test.true, c.loop-i.auto.i)) in
    w.0

pub bounds-marked-entry : goal.bounds-marked-entry
unfolding none
bounds-marked-entry c =
    let w : IsLiteralInRange (length c.args.marked.now) (get_or c.args.entries.now (c.loop-i.i - 1) none).literal = entry_in_range (length c.args.marked.now) c.args.clauses.now c.args.entries.now (c.loop-i.i - 1) none c.requires.in_range c.requires.trail (omega (arith, c.loop-i-test.true, c.loop-i.auto.i)) in
    omega (arith, w.0, w.1)

pub loop-i-preserved : goal.loop-i-preserved
unfolding none
loop-i-preserved c =
    let j = c.loop-i.i - 1 in
    let next : c.loop-i.i ≡ j + 1 = omega arith in
    let lt : j < length c.args.entries.now = omega arith in
    record {
      leads = leads_past c.args.clauses.now c.args.entries.now j none c.loop-i.marked _ lt c.if-marked-entry.false (rw next at c.loop-i.invariant.leads);
      long = c.loop-i.invariant.long;
    }

pub loop-i-preserved-then-marked-entry : goal.loop-i-preserved-then-marked-entry
unfolding none
loop-i-preserved-then-marked-entry c =
    let cs = c.args.clauses.now in
    let entries = c.args.entries.now in
    let j = c.loop-i.i - 1 in
    let next : c.loop-i.i ≡ j + 1 = omega arith in
    let lt : j < length entries = omega arith in
    let forced = c.requires.trail j none lt in
    let more = c.mark-then-marked-entry in
    let m = marked_clause cs (get_or entries j none).number c.index-clauses-entry.result c.literals-then-marked-entry.result.now more.new.marked forced.within c.index-clauses-entry.is c.literals-then-marked-entry.ensures more.ensures.marks in
    record {
      leads = rw c.in_ok-push-2.ensures.items
          (leads_reversed cs entries j more.new.marked c.loop-i.hints.items _
          (leads_forced cs entries j none c.loop-i.marked more.new.marked _ lt c.requires.trail more.ensures.grows m (rw next at c.loop-i.invariant.leads)));
      long = omega arith;
    }

pub returns : goal.returns
returns c =
    let end : c.loop-i.i ≡ 0 = omega arith in
    rw c.reverse.ensures.items (leads_all c.args.clauses.now c.args.entries.now c.loop-i.marked _ (rw end at c.loop-i.invariant.leads))
