-- Notices as they are read before they are taken.
use Rattle.std.specs.Prelude.{⊤, ◌≡◌, Option, Some, None}
use Rattle.std.specs.Arc.{arc_value}
use Rattle.moka_model.specs.Removals.{Removal}
use Rattle.moka_model.specs.declared.notification.Notice.{Notice}

-- The notice of a removal, with a clone of its value, or no notice if there is no removal.
abbrev pub IsNoticeOf : {K V : Type 0} → (V → V → Type 0) → Option (Removal K V) → Option (Notice K V) → Type 0
IsNoticeOf is_clone None None = ⊤
IsNoticeOf is_clone (Some r) (Some n) = (arc_value n.key ≡ r.key) × is_clone r.value n.value × (n.cause ≡ r.cause)
IsNoticeOf is_clone r n = ⊥
