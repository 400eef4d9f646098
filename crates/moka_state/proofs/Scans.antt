-- The keys of the rows are those of the writes that they store.
use Rattle.std.proofs.Common.{◌≡◌, ℕ, List, [], ◌∷◌, ◌++◌, map, refl, sym, ap, ◌∙◌}
use Rattle.std.specs.Arc.{arc_value}
use Rattle.std.proofs.lemmas.List.{map-append}
use Rattle.moka_model.specs.Lives.{Write}
use Rattle.moka_rows.specs.declared.rows.Row.{Row}
use Rattle.moka_table.specs.Table.{Contents, entries, keys_of, stored_writes}

stored-keys : {K V : Type 0} (rows : List (ℕ × Row K V)) → keys_of rows ≡ map (λ (w : Write K V). w.key) (stored_writes rows)
stored-keys [] = refl
stored-keys (p ∷ ps) = ap (λ l. arc_value p.1.key ∷ l) (stored-keys ps)

pub all-keys : {K V : Type 0} (c : Contents K V) → keys_of (entries c) ≡ map (λ (w : Write K V). w.key) (stored_writes c.admitted ++ stored_writes c.waiting)
all-keys c =
    map-append (λ p. arc_value p.1.key) c.admitted c.waiting ∙ ap (λ l. l ++ keys_of c.waiting) (stored-keys c.admitted) ∙ ap (λ l. map (λ (w : Write _ _). w.key) (stored_writes c.admitted) ++ l) (stored-keys c.waiting)
    ∙ sym (map-append (λ (w : Write _ _). w.key) (stored_writes c.admitted) (stored_writes c.waiting))
