-- The key by which a table finds an open turn.
use Rattle.std.specs.Prelude.{◌≡◌, ◌==◌, ◌&&◌, ℕ, Bool, true}
use Rattle.std.specs.Arc.{arc_value}
use Rattle.std.specs.Cmp.{IsEquivalence, and_equiv, nat_eq_equiv, on_equiv}
use denote.Enum.Declared.{tag_of}
use denote.RawPtr.{null_ptr}
use Rattle.moka_model.specs.Turns.{same_kind}
use Rattle.moka_model.specs.contracts.turns.Kind.{the_type}
use Rattle.moka_model.specs.contracts.turns.KindPartialEq.TheImpl as kinds
use Rattle.moka_model.specs.declared.turns.Kind.{Kind}
use Rattle.moka_turns.specs.declared.turn_key.TurnKey.{TurnKey}
use Rattle.moka_turns.specs.declared.turn_key.TurnQuery.{TurnQuery}

-- Whether hash, kind and key of two such keys are equal, as `==` of their type compares them.
abbrev pub table_key_eq : {K : Type 0} → (K → K → Bool) → TurnKey K → TurnKey K → Bool
table_key_eq eq a b = a.hash == b.hash && ((kinds.ghosts).eq a.kind b.kind && eq (arc_value a.key) (arc_value b.key))

-- The same, with the definitions' comparison of kinds.
abbrev pub same_key : {K : Type 0} → (K → K → Bool) → TurnKey K → TurnKey K → Bool
same_key eq a b = a.hash == b.hash && (same_kind a.kind b.kind && eq (arc_value a.key) (arc_value b.key))

-- Whether a query asks for such a key: hash, kind and key are equal.
abbrev pub is_asked_by : {K : Type 0} → (K → K → Bool) → TurnQuery K → TurnKey K → Bool
is_asked_by eq query key = query.hash == key.hash && ((kinds.ghosts).eq query.kind key.kind && eq query.key.now (arc_value key.key))

-- A table key consists of this hash, this kind and this key.
abbrev pub IsKeyOf : {K : Type 0} → ℕ → Kind → K → TurnKey K → Type 0
IsKeyOf hash kind key own = (own.hash ≡ hash) × (own.kind ≡ kind) × (arc_value own.key ≡ key)

-- A query that asks for a key asks for those equal to it, and for no others.
pub asked-alike : {K : Type 0} (eq : K → K → Bool) → IsEquivalence eq → (q : TurnQuery K) (x y : TurnKey K) → is_asked_by eq q x ≡ true →
    is_asked_by eq q y ≡ table_key_eq eq x y
asked-alike {K} eq laws q =
    let hashes = on_equiv (λ (key : TurnKey K). key.hash) nat_eq_equiv in
    let kinds = on_equiv (λ (key : TurnKey K). tag_of the_type key.kind) nat_eq_equiv in
    let keys = on_equiv (λ (key : TurnKey K). arc_value key.key) laws in
    (and_equiv hashes (and_equiv kinds keys)).congr
    (record { hash = q.hash; kind = q.kind; key = record { ptr = null_ptr; value = q.key.now } })
