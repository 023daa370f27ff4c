use Rattle.std.proofs.Common.{◌≡◌, ◌<◌, ◌*◌, ◌+◌, ◌-◌, length, ap, sym, ◌∙◌, subst, arith}
use Rattle.std.specs.List.{All}
use Rattle.dd_topology.specs.{Sets.symbol_sets, Sets.restricted, keeping.Kept.in_rows}
use Rattle.dd_topology.proofs.SetLaws.{length-in_rows, rows_restricted, as_long, restricted_are_sets}
use Rattle.dd_topology.proofs.sets.Sets.restrict.Goals as goal

module _ (c : goal.After-self-1) where
  below : c.args.node < c.self.inside.nodes
  below =
      let s = c.self.inside in
      let rows : length c.args.self.now.allowed ≡ s.nodes = ap (λ v. length v.allowed) (sym c.self.view_is) ∙ length-in_rows s.nodes s.symbols s.allowed.items in
      omega arith

  size : (c.args.node * c.self.inside.symbols + c.self.inside.symbols - c.args.node * c.self.inside.symbols) ≡ c.self.inside.symbols
  size = omega arith

  full : length c.self.inside.allowed.items ≡ c.self.inside.allowed.len
  full = omega (arith, c.self.inside.allowed.ok.0)

pub invariant_of-self : goal.invariant_of-self
invariant_of-self c =
    let s = c.self.inside in
    let rows = rows_restricted s.nodes s.symbols c.args.node _ s.allowed.len s.allowed.items c.deref_mut.result.now c.allow_listed.new.row c.args.symbols.now (below c) c.self.invariant.1 (full c)
    c.deref_mut.ensures.value (size c) c.allow_listed.ensures in
    let in_alphabet : All (λ t. t < s.symbols) c.args.symbols.now = subst (λ v. All (λ t. t < v.symbols) c.args.symbols.now) (sym c.self.view_is) c.requires.symbols in (
      rw rows (restricted_are_sets s.nodes (symbol_sets s.symbols (in_rows s.nodes s.symbols s.allowed.items)) c.args.node c.args.symbols.now c.self.invariant.0 in_alphabet c.requires.some),
      as_long s.nodes s.symbols c.args.node _ s.allowed.len s.allowed.items c.deref_mut.result.now c.allow_listed.new.row c.args.symbols.now (below c) c.self.invariant.1 (full c)
          c.deref_mut.ensures.value (size c) c.allow_listed.ensures,
    )

pub returns : goal.returns
returns c =
    let s = c.self.inside in
    let rows = rows_restricted s.nodes s.symbols c.args.node _ s.allowed.len s.allowed.items c.deref_mut.result.now c.allow_listed.new.row c.args.symbols.now (below c) c.self.invariant.1 (full c)
    c.deref_mut.ensures.value (size c) c.allow_listed.ensures in
    record { sets = ap (symbol_sets s.symbols) rows ∙ ap (λ v. restricted v c.args.node c.args.symbols.now) c.self.view_is }
