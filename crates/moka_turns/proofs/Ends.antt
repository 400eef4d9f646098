-- What a table represents once its open turn of a kind and key has ended.
use Rattle.std.proofs.Common.{◌≡◌, ℕ, ◌<◌, true, nat_eq, Option, Some, None, IsSome, List, refl, ap}
use Rattle.std.specs.Arc.{arc_value}
use Rattle.std.specs.Option.{IfSome}
use Rattle.std.specs.Cmp.{IsEquivalence}
use Rattle.std.specs.declared.cmp.PartialEq.{Ghosts}
use Rattle.indexmap.specs.IndexMap.{get}
use Rattle.moka_model.specs.Turns.{Turn, End, Ended, moved}
use Rattle.moka_model.specs.Calls.{IsCopiedEnd}
use Rattle.moka_turns.specs.declared.turn_key.TurnKey.{TurnKey}
use Rattle.moka_turns.specs.declared.table.OpenTurn.{OpenTurn}
use Rattle.moka_turns.specs.declared.table.TurnEnd.{TurnEnd}
use Rattle.moka_turns.specs.declared.table.TurnEnd.TheVariants as ends
use Rattle.moka_turns.specs.declared.table.TurnTable.{TurnTable}
use Rattle.moka_turns.specs.TurnTable.{open_at, opened_key, ended_at, SameEnded, UpdatesOpen, RetainsEnded, RespectsEq, IsTableOf}
use Rattle.moka_turns.specs.Represents.{AreSound, end_of}
use Rattle.moka_turns.proofs.Abandons.{by_kinds, own-parts, the_turn, end-keeps}
use Rattle.moka_turns.proofs.Begins.{nobody}
use Rattle.moka_turns.proofs.Changes.{is-there, given-there}

module _ {K V E : Type 0} {same : Ghosts K} (laws : IsEquivalence same.eq) (is_clone : V → V → Type 0) (hash_of : K → ℕ) (respects : RespectsEq same.eq hash_of)
    (ts : List (Turn K V E)) (sound : AreSound same.eq ts) (old new : TurnTable K V E same) (keeps : IsTableOf is_clone hash_of ts old)
    (q : TurnKey K) (hashed : q.hash ≡ hash_of (arc_value q.key)) (row : OpenTurn V) (there : open_at old q ≡ Some row)
    (opened : UpdatesOpen old new q None) (own : IsSome (opened_key old q)) (alone : row.unspent ≡ 0 → SameEnded old new) where
  abbrev pub turn_there : Turn K V E
  turn_there = (the_turn same.eq laws is_clone hash_of respects ts sound (open_at old) (ended_at old) keeps q hashed row there).0

  -- the new table represents the turns, of which that one has ended
  pub ends-table : (end : Option (TurnEnd V E)) → (0 < row.unspent → IsSome end)
      → (0 < row.unspent → RetainsEnded old new q end row)
      → (final : End V E) → IfSome end (λ given. IsCopiedEnd is_clone (Some final) (Some (end_of given)))
      → IsTableOf is_clone hash_of (moved (Ended turn_there.name.number final) ts) new
  ends-table end some waited final copied = go end some waited copied
    where
      stored : (key : TurnKey K) × (opened_key old q ≡ Some key)
      stored = is-there (opened_key old q) own

      parts : (stored.0.kind ≡ q.kind) × (same.eq (arc_value q.key) (arc_value stored.0.key) ≡ true)
      parts = own-parts same.eq q old.opened.entries stored.0 stored.1

      go : (end : Option (TurnEnd V E)) → (0 < row.unspent → IsSome end)
          → (0 < row.unspent → RetainsEnded old new q end row)
          → IfSome end (λ given. IsCopiedEnd is_clone (Some final) (Some (end_of given)))
          → IsTableOf is_clone hash_of (moved (Ended turn_there.name.number final) ts) new
      go None some waited copied =
          end-keeps same.eq laws is_clone hash_of respects ts sound (open_at old) (ended_at old) keeps q hashed row there stored.0 parts.0 parts.1 ends.Nothing final (λ more. absurd (nobody {A = TurnEnd V E} None refl (some more)))
          (open_at new) (ended_at new) (λ p. by_kinds same.eq q p _ _ _ (opened.0 p)) (λ more. absurd (nobody {A = TurnEnd V E} None refl (some more))) (λ none m. ap (λ t. get nat_eq t m) (alone none))
      go (Some given) some waited copied =
          end-keeps same.eq laws is_clone hash_of respects ts sound (open_at old) (ended_at old) keeps q hashed row there stored.0 parts.0 parts.1 given final (λ _. copied)
          (open_at new) (ended_at new) (λ p. by_kinds same.eq q p _ _ _ (opened.0 p)) (λ more. (given-there _ _ stored.0 stored.1 (waited more)).0) (λ none m. ap (λ t. get nat_eq t m) (alone none))
