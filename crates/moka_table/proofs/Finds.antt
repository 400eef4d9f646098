-- What a lookup finds.
use Rattle.std.proofs.Common.{◌≡◌, Option, Some, None, IsSome, refl, sym, ap, ◌∙◌}
use Rattle.std.specs.Option.{IfSome}
use Rattle.std.specs.Arc.{arc_value}
use Rattle.moka_rows.specs.declared.rows.Row.{Row}

-- a value that is present, and what is known of it
pub found-row : {A : Type 0} (P : A → Type 0) (o : Option A) → IsSome o → IfSome o P → (x : A) × (o ≡ Some x) × P x
found-row P None some known = absurd (cc)
found-row P (Some x) some known = (x, refl, known)

pub stored-row : {A : Type 0} (o : Option A) → IsSome o → (x : A) × (o ≡ Some x)
stored-row None some = absurd (cc)
stored-row (Some x) some = (x, refl)

abbrev value_or : {A : Type 0} → A → Option A → A
value_or other None = other
value_or other (Some x) = x

-- what is found twice is the same
pub one-found : {A : Type 0} (o : Option A) (a b : A) → o ≡ Some a → o ≡ Some b → a ≡ b
one-found o a b first second = ap (value_or a) (sym first ∙ second)

-- equal rows have the same key and the same value
pub same-row-key : {K V : Type 0} (a b : Row K V) → a ≡ b → arc_value a.key ≡ arc_value b.key
same-row-key {K} {V} a b same = ap (λ (r : Row K V). arc_value r.key) same

pub same-row-value : {K V : Type 0} (a b : Row K V) → a ≡ b → a.value ≡ b.value
same-row-value {K} {V} a b same = ap (λ (r : Row K V). r.value) same
