-- The recorded looks alone note hashes.
use Rattle.std.proofs.Common.{◌≡◌, None, List, [], ◌∷◌, ◌++◌, map, refl, sym, ap, ◌∙◌, append-nil, append_assoc}
use Rattle.std.specs.Option.{option_to_list}
use Rattle.std.proofs.lemmas.List.{map-append}
use Rattle.moka_model.specs.Lives.{Settings}
use Rattle.moka_model.specs.Events.{Event, Looked, TurnedDown, Written, Invalidated, Hidden, Maintained, Passed, Drawn, Taken}
use Rattle.moka_model.specs.Admission.{notes}
use Rattle.moka_laws.specs.AdmissionLaws.{looked_for, all_looked_for}

module _ {K V : Type 0} (settings : Settings K V) where
  -- one more event notes the hash of the key that it looks for
  notes-next : (e : Event K V) (h : List (Event K V)) → notes settings (e ∷ h) ≡ notes settings h ++ map settings.behaviour.hash (option_to_list (looked_for e))
  notes-next (Looked k at) h = refl
  notes-next (TurnedDown k at) h = refl
  notes-next (Written k v at) h = sym (append-nil (notes settings h))
  notes-next (Invalidated k at) h = sym (append-nil (notes settings h))
  notes-next (Hidden test) h = sym (append-nil (notes settings h))
  notes-next (Maintained limit at) h = sym (append-nil (notes settings h))
  notes-next (Passed at) h = sym (append-nil (notes settings h))
  notes-next Drawn h = sym (append-nil (notes settings h))
  notes-next Taken h = sym (append-nil (notes settings h))

  -- an event that looks for none notes none
  pub notes-none : (e : Event K V) (h : List (Event K V)) → looked_for e ≡ None → notes settings (e ∷ h) ≡ notes settings h
  notes-none e h none = notes-next e h ∙ ap (λ o. notes settings h ++ map settings.behaviour.hash (option_to_list o)) none ∙ append-nil (notes settings h)

  pub notes-more : (later h : List (Event K V)) → notes settings (later ++ h) ≡ notes settings h ++ map settings.behaviour.hash (all_looked_for later)
  notes-more [] h = sym (append-nil (notes settings h))
  notes-more (e ∷ later) h =
      let here : List K = option_to_list (looked_for e) in
      notes-next e (later ++ h)
      ∙ ap (λ ns. ns ++ map settings.behaviour.hash here) (notes-more later h)
      ∙ append_assoc (notes settings h) (map settings.behaviour.hash (all_looked_for later)) (map settings.behaviour.hash here)
      ∙ ap (λ ns. notes settings h ++ ns) (sym (map-append settings.behaviour.hash (all_looked_for later) here))

  pub notes-all : (h : List (Event K V)) → notes settings h ≡ map settings.behaviour.hash (all_looked_for h)
  notes-all h = ap (notes settings) (sym (append-nil h)) ∙ notes-more h []
