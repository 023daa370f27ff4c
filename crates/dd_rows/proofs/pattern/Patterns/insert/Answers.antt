use Rattle.std.proofs.Common.{◌∙◌}
use Rattle.std.specs.Cmp.Lexicographic.{nat_list_cmp_total}
use Rattle.dd_rows.proofs.SortedLists.{found_already, put_there, ascends_still}
use Rattle.dd_rows.proofs.pattern.Patterns.insert.Goals as goal

pub returns-in-Ok : goal.returns-in-Ok
returns-in-Ok c =
    found_already nat_list_cmp_total c.self.inside.list.items c.as_slice.result.now c.args.self.now c.self.invariant c.as_slice.ensures.value c.self.view_is c.in-Ok.field-0 c.args.pattern.now
    c.in-Ok.ensures.bound (c.in-Ok.ensures.ok c.args.pattern.now)

pub returns-in_ok-insert-in-Err : goal.returns-in_ok-insert-in-Err
returns-in_ok-insert-in-Err c =
    put_there nat_list_cmp_total c.self.inside.list.items c.as_slice.result.now c.args.self.now c.self.invariant c.as_slice.ensures.value c.self.view_is c.in-Err.place c.args.pattern.now
    c.in_ok-symbols-in-Err.symbols.items c.insert.new.self.items c.in-Err.ensures.bound c.in-Err.ensures.position (c.in_ok-symbols-in-Err.ensures.items ∙ c.symbols.ensures) c.in_ok-insert-in-Err.ensures.items

pub invariant_of-self-in-Err : goal.invariant_of-self-in-Err
invariant_of-self-in-Err c =
    ascends_still nat_list_cmp_total c.self.inside.list.items c.as_slice.result.now c.args.self.now c.self.invariant c.as_slice.ensures.value c.self.view_is c.args.pattern.now
    c.insert.new.self.items
    (put_there nat_list_cmp_total c.self.inside.list.items c.as_slice.result.now c.args.self.now c.self.invariant c.as_slice.ensures.value c.self.view_is c.in-Err.place c.args.pattern.now
    c.in_ok-symbols-in-Err.symbols.items c.insert.new.self.items c.in-Err.ensures.bound c.in-Err.ensures.position (c.in_ok-symbols-in-Err.ensures.items ∙ c.symbols.ensures) c.in_ok-insert-in-Err.ensures.items)
