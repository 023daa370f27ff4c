-- How a recursive type may contain a `Boxed` of its own values. Contracts see such a `Boxed` as the value in it. Below, the hole
-- stands for the recursive type.
use mathlib.Core.Path.{refl}
use mathlib.Core.Former.{Former, this, const, pair, via}
use base.Stored.{gnil}
use base.Fml.{ftrue}
use denote.RattleType.{RattleType}
use denote.Memory.{part_of}
use denote.RawPtr.{Ptr}
use denote.Sharing.{nothing}
use denote.HoleLaws.{Alike}
use denote.HolePlaces.{Recodes, struct_places, laid, one_value}
use denote.Hole.Fix.{over}
use denote.Param.Weighed.{Weighed}
use denote.Model.Placed.{view_places}
use Rattle.std.specs.{declared.boxed.Box.Box, declared.alloc.Global.Global, contracts.impls.GlobalAllocator.TheImpl.ghosts}
use Rattle.dd_values.specs.declared.boxed.Boxed.TheInside.{Inside}
use Rattle.dd_values.specs.declared.boxed.Boxed.TheView.{view, invariant}
use Rattle.std.specs.contracts.boxed.Box as box
use Rattle.std.specs.contracts.alloc.Global as heap
use Rattle.dd_values.specs.contracts.boxed.Boxed as value
use Rattle.dd_values.specs.contracts.boxed.Boxed.TheInside as inside

-- a value of the type in the hole
abbrev pub the_former : Former {0} → Former {0}
the_former hole = hole

abbrev pub the_weighed : {hole : Former {0}} → Weighed hole → Weighed (the_former hole)
the_weighed weighed = weighed

-- the struct's only field, a `Box`, in parts: an address, the allocator, and the value at the address
abbrev fields : Former {0}
fields = via (pair (const (Ptr × Global)) this) Inside (λ X kept. ((kept.inner.ptr, kept.inner.alloc), kept.inner.value))
    (λ X parts. record { inner = record { ptr = parts.0.0; alloc = parts.0.1; value = parts.1 } }) (λ X kept. refl) (λ X parts. refl)

abbrev with_value : {X Y : Type 0} → Box X Global → Y → Box Y Global
with_value kept y = record { ptr = kept.ptr; alloc = kept.alloc; value = y }

abbrev box_of : RattleType → RattleType
box_of R = box.the_row R heap.the_row ghosts

module _ (From To : RattleType) (along : From.Denot → To.Denot) where
  box_places : Alike From To along → Alike (box_of From) (box_of To) (λ kept. with_value kept (along kept.value))
  unfolding part_of
  box_places alike = record {
    mir_same = λ i. (box_of (one_value From (alike.mir_same i) (λ _. ftrue) (λ _ _. nothing) gnil)).mir;
    own_same = λ kept i. (box_of (one_value From (alike.mir_same i) (alike.own_same kept.value i) (alike.shr_same kept.value i) gnil)).own_val (with_value kept tt);
    shr_same = λ kept i. (box_of (one_value From (alike.mir_same i) (alike.own_same kept.value i) (alike.shr_same kept.value i) gnil)).shr_at (with_value kept tt);
  }

  pub the_places : Alike From To along → Alike (value.the_row From) (value.the_row To) ((the_former this).map From.Denot To.Denot along)
  the_places alike = view_places fields this view (λ X Y k u. refl) (λ X u. refl)
      From.Denot To.Denot along (value.the_row From).coded (value.the_row To).coded
      (invariant From.Denot) (invariant To.Denot) (λ u p q. refl) (λ u p q. refl) (λ u e. tt) (λ u e. tt)
      (over (inside.the_row From)) (over (inside.the_row To))
      (struct_places (inside.the_type From) (inside.the_type To) ((λ kept. with_value kept (along kept.value)), tt) _ (λ d. refl) refl
      (laid _ _ _ (box_places alike), tt))

  pub the_codes_placed : Recodes From To along → Recodes (value.the_row From) (value.the_row To) ((the_former this).map From.Denot To.Denot along)
  the_codes_placed recodes x = recodes x
