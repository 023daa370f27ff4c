use Rattle.std.proofs.{Common.length, Common.ap, Common.arith, lemmas.List.length-map}
use Rattle.dd_rows.specs.listing.Sparse.{dense}
use Rattle.dd_rows.proofs.SparseLaws.{same_sparse, sparse_tells, with_row}
use Rattle.dd_rows.proofs.program.add_row.Goals as goal

pub returns-clause-ok : goal.returns-clause-ok
returns-clause-ok c = λ v p all one. with_row v p same_sparse sparse_tells c.args.row c.args.rows.now.keys c.insert.new.self.keys one all c.in-Ok.ensures.keys

pub returns-then-len-gt-MOST_ROWS-clause-err : goal.returns-then-len-gt-MOST_ROWS-clause-err
returns-then-len-gt-MOST_ROWS-clause-err c = λ v p all one.
    let w = with_row v p same_sparse sparse_tells c.args.row c.args.rows.now.keys c.insert.new.self.keys one all c.in-Ok.ensures.keys in
    let size = ap length w.rows in
    let kept = length-map c.insert.new.self.keys (dense p) in
    let len = c.len.ensures.len in
    let many = c.if-len-gt-MOST_ROWS.true in
    omega (arith, size, kept, len, many)
