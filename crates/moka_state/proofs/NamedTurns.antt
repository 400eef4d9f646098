-- A call that moves the turn of its name and replies nothing more: the table of turns tells whether it has that turn.
use Rattle.std.proofs.Common.{◌≡◌, ℕ, Bool, true, false, Some, None, option_map, List, [], refl, sym, ap, ◌∙◌, subst}
use Rattle.std.specs.Option.{MatchOption}
use Rattle.std.specs.Cmp.{IsEquivalence}
use Rattle.std.specs.Prelude.{Ok}
use Rattle.std.specs.declared.cmp.PartialEq.{Ghosts}
use Rattle.moka_model.specs.Lives.{Settings}
use Rattle.moka_model.specs.Turns.{Turn, Name, Move, found, moved}
use Rattle.moka_model.specs.Steps.{AcceptedStep, turns, events_in}
use Rattle.moka_model.specs.Numbers.{next_number}
use Rattle.moka_model.specs.Calls.{Call, Done, accepted, after, with_move, WantsNumberBy}
use Rattle.moka_model.specs.StandsFor.{View, StandsFor}
use Rattle.moka_model.proofs.Callers.{whole}
use Rattle.moka_turns.specs.declared.turn_key.TurnKey.{TurnKey}
use Rattle.moka_turns.specs.declared.table.TurnTable.{TurnTable}
use Rattle.moka_turns.specs.Represents.{name_of, turns_in}
use Rattle.moka_turns.specs.TurnTable.{RespectsEq, SameTurns, IsTableOf, AtEachChange}
use Rattle.moka_turns.proofs.Views.{table-keeps, table-holds}
use Rattle.moka_state.specs.Given.{Gives}
use Rattle.moka_state.proofs.Turns.{sound-turns, found-told, none-told, gives-accepted, stands-found, same-turns}

module _ {K V E : Type 0} {same : Ghosts K} (laws : IsEquivalence same.eq) (is_clone : V → V → Type 0) (is_infallible : V → Type 0) (settings : Settings K V) where
  -- the table has the turn of this name, and moves it
  abbrev Moves : (Name K → Turn K V E → Bool) → (ℕ → Move K V E) → Bool → Name K → List (Turn K V E) → (List (Turn K V E) → Type 0) → Type 0
  Moves is_it move result name ts After = MatchOption (found (is_it name) ts) (result ≡ false) (λ t. (result ≡ true) × After (moved (move t.name.number) ts))

  module _ (hash_of : K → ℕ) (alike : RespectsEq same.eq hash_of) (call : Name K → Call K V E) (is_it : Name K → Turn K V E → Bool) (move : ℕ → Move K V E) (steps : List (AcceptedStep K V E)) (view : View K V) (old new : TurnTable K V E same)
      (stands : StandsFor same.eq is_clone settings (whole view (turns_in hash_of old.opened.entries old.ended.entries)) steps)
      (reads : (n : Name K) → accepted same.eq settings steps (call n) ≡ option_map (λ t. with_move Done [] (move t.name.number)) (found (is_it n) (turns steps)))
      (key : TurnKey K) (number : ℕ) (name : Name K) (named : name_of key number ≡ name) (hashed : key.hash ≡ hash_of name.key)
      (result : Bool) (moves : AtEachChange is_clone key old new (Moves is_it move result (name_of key number))) where
    it : Moves is_it move result name (turns steps) (λ ts. IsTableOf is_clone hash_of ts new)
    it =
        let own = subst (λ (n : Name K). key.hash ≡ hash_of n.key) (sym named) hashed in
        let keeps = table-keeps same.eq laws is_clone hash_of alike old.opened.entries old.ended.entries (turns steps) stands.turns in
        subst (λ n. Moves is_it move result n (turns steps) (λ ts. IsTableOf is_clone hash_of ts new)) named
        (moves hash_of (turns steps) alike own (sound-turns same.eq laws settings steps stands.legal) keeps)

    -- without that turn the specification does not accept the call,
    pub refuses-named : result ≡ false → accepted same.eq settings steps (call name) ≡ None
    refuses-named off = reads name ∙ ap (option_map (λ t. with_move Done [] (move t.name.number))) (none-told _ (found (is_it name) (turns steps)) result it off)

    -- with it the call replies that it is done,
    pub gives-named : ((n next : ℕ) → ¬ (WantsNumberBy next (turns steps) [] (Some (move n)))) → result ≡ true → Gives same.eq is_clone is_infallible settings steps (call name) (Ok Done)
    gives-named draws on =
        let t = found-told _ (found (is_it name) (turns steps)) result it on in
        gives-accepted same.eq is_clone is_infallible settings steps (call name) (with_move Done [] (move t.0.name.number)) Done (reads name ∙ ap (option_map (λ t. with_move Done [] (move t.name.number))) t.1) refl (draws t.0.name.number (next_number settings (events_in steps)))

    -- and the new table stands for the turns after it
    pub stands-named : (result ≡ false → SameTurns old new) → StandsFor same.eq is_clone settings (whole view (turns_in hash_of new.opened.entries new.ended.entries)) (after same.eq settings (call name) steps)
    stands-named unchanged =
        stands-found same.eq settings view _ _ steps stands (call name) (λ t. with_move Done [] (move t.name.number)) (found (is_it name) (turns steps)) (reads name) (λ t. move t.name.number) (λ t. refl) _
        (λ ts. table-holds same.eq laws is_clone hash_of alike new.opened.entries new.ended.entries ts)
        result (λ none. same-turns hash_of _ _ _ _ (unchanged none).0 (unchanged none).1) it
