use Rattle.std.proofs.Common.{Ok, Err, ◌≡◌, ◌∙◌, length, rules}
use Rattle.std.specs.Cmp.Lexicographic.{nat_list_cmp_total}
use Rattle.dd_rows.proofs.SortedLists.{numbered}
use Rattle.dd_rows.proofs.pattern.Patterns.number.Goals as goal

pub returns-in-Ok : goal.returns-in-Ok
returns-in-Ok c =
    numbered nat_list_cmp_total c.self.inside.list.items c.as_slice.result.now c.args.self.now c.self.invariant c.as_slice.ensures.value c.self.view_is c.args.pattern.now (Ok c.in-Ok.number)
    c.in-Ok.ensures.bound c.in-Ok.ensures.position

pub returns-in-Err : goal.returns-in-Err
returns-in-Err c =
    (let size : c.len.result ≡ length c.self.inside.list.items = search rules in size)
    ∙ numbered nat_list_cmp_total c.self.inside.list.items c.as_slice.result.now c.args.self.now c.self.invariant c.as_slice.ensures.value c.self.view_is c.args.pattern.now (Err c.in-Err.field-0)
    c.in-Err.ensures.bound c.in-Err.ensures.position
