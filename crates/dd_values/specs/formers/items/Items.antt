-- How a recursive type may contain `Items` of its own values. Contracts see such `Items` as the list of the items. Below, the
-- hole stands for the recursive type.
use mathlib.Core.Path.{◌≡◌, refl, sym}
use mathlib.Core.List.{List, []}
use mathlib.Core.Former.{Former, this, list, via, children}
use base.Stored.{code_map}
use denote.RattleType.{RattleType}
use denote.HoleLaws.{Alike}
use denote.HolePlaces.{Recodes, struct_places, laid}
use denote.Hole.Carrier.{listed, list-listed}
use denote.Hole.Fix.{over}
use denote.Param.Weighed.{Weighed, w_list}
use denote.Model.Placed.{view_places}
use Rattle.std.specs.{declared.alloc.Global.Global, contracts.impls.GlobalAllocator.TheImpl.ghosts}
use Rattle.dd_values.specs.declared.items.Items.TheInside.{Inside}
use Rattle.dd_values.specs.declared.items.Items.TheView.{view, invariant}
use Rattle.std.specs.formers.vec.Vec as vec
use Rattle.std.specs.contracts.alloc.Global as heap
use Rattle.dd_values.specs.contracts.items.Items as value
use Rattle.dd_values.specs.contracts.items.Items.TheInside as inside

-- a list of values of the type in the hole
abbrev pub the_former : Former {0} → Former {0}
the_former hole = list hole

abbrev pub the_weighed : {hole : Former {0}} → Weighed hole → Weighed (the_former hole)
the_weighed weighed = w_list weighed

pub the_empty : List ⊥
the_empty = []

abbrev pub the_items : (X : Type 0) → List X → List X
the_items X xs = xs

pub the_items_listed : (X : Type 0) (xs : List X) → listed _ (children (the_former this) X xs) ≡ the_items X xs
the_items_listed X xs = list-listed X xs

-- the struct's only field: a vector in the global allocator
abbrev fields : Former {0}
fields = via (vec.the_former this Global) Inside (λ X kept. kept.vec) (λ X vector. record { vec = vector }) (λ X kept. refl) (λ X vector. refl)

module _ (From To : RattleType) (along : From.Denot → To.Denot) where
  pub the_places : Alike From To along → Alike (value.the_row From) (value.the_row To) ((the_former this).map From.Denot To.Denot along)
  the_places alike = view_places fields (list this) view (λ X Y k u. refl) (λ X u. refl)
      From.Denot To.Denot along (value.the_row From).coded (value.the_row To).coded
      (invariant From.Denot) (invariant To.Denot) (λ u p q. refl) (λ u p q. refl) (λ u e. tt) (λ u e. tt)
      (over (inside.the_row From)) (over (inside.the_row To))
      (struct_places (inside.the_type From) (inside.the_type To) (vec.mapped along, tt) _ (λ d. refl) refl
      (laid _ _ _ (vec.the_places heap.the_row ghosts From To along alike), tt))

  pub the_codes_placed : Recodes From To along → Recodes (value.the_row From) (value.the_row To) ((the_former this).map From.Denot To.Denot along)
  the_codes_placed recodes xs = sym (code_map From.coded.code To.coded.code along (λ x. sym (recodes x)) xs)
