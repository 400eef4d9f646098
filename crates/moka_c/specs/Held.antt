-- What a struct owns that holds the box of a cache for C: that box, or nothing.
use base.Fml.{Fml, ftrue}
use denote.RattleType.{RattleType}
use denote.RawPtr.{Ptr}
use Rattle.std.specs.Prelude.{Option, Some, None}
use Rattle.std.specs.Box.Ownership.{box_owns}
use Rattle.std.specs.Global.{Global}
use Rattle.std.specs.contracts.impls.GlobalAllocator.TheImpl.{ghosts}

abbrev pub box_held : (R : RattleType) → Global → Ptr → Option R.Denot → Fml
box_held R alloc p None = ftrue
box_held R alloc p (Some x) = box_owns (ghosts.dealloc_token alloc) R p x
