use Rattle.dd_verify.proofs.laws.goal_facts.Goals as goal

pub returns-in-Breaks : goal.returns-in-Breaks
returns-in-Breaks c x = rw c.in-Breaks.is (λ over kept. (kept, over))

pub returns-in-Differ : goal.returns-in-Differ
returns-in-Differ c x =
    rw c.in-Differ.is
    (λ over kept. record {
      over = over;
      left_placed = c.reads_are_placed.ensures;
      right_placed = c.reads_are_placed-in-Differ.ensures;
      left_says = c.says_its_value.ensures;
      right_says = c.says_its_value-in-Differ.ensures;
    })

pub returns-in-Always : goal.returns-in-Always
returns-in-Always c x = rw c.in-Always.is (λ over kept. tt)
