-- What goes to another thread with a pointer.
use base.Fraction.{full_share}
use mir.Raw.{raw}
use base.Shift.{Keyless}
use denote.Memory.{lone}
use denote.Exit.{Exit, unchanged, leaves, hidden, under}
use denote.RattleType.{RattleType}
use denote.RawPtr.{Ptr, block_ptr, null_ptr, lies_at}
use denote.Param.Send.{IsSend, Quiet, part_keyless}
use Rattle.std.specs.Global.{Global}
use Rattle.std.specs.Prelude.{Option, Some, None}
use Rattle.std.proofs.Crossing as heap
use Rattle.moka_c.specs.Held.{box_held}

pub quiet : {D X : Type 0} (to : D → X) (e : Exit X) → Quiet e → Quiet (hidden (under to e))
quiet to unchanged q = λ x w. tt
quiet to (leaves L l S s r₀) q = λ d. q (to d)

pub lies : (R : RattleType) → IsSend R → (p : Ptr) (x : R.Denot) → Keyless (lies_at R full_share p x)
lies R s (block_ptr b o) x = part_keyless R s full_share x b o
lies R s null_ptr x = tt

-- the box that a struct holds for C
pub kept : (R : RattleType) → IsSend R → (alloc : Global) (p : Ptr) (held : Option R.Denot) → Keyless (box_held R alloc p held)
kept R s alloc p None = tt
kept R s alloc p (Some x) = (lies R s p x, heap.frees.frees alloc (raw (lone R.mir)) p)
