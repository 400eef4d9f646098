-- Where a write goes, and what putting its value there makes of the view of a state.
use Rattle.std.proofs.Common.{◌≡◌, ℕ, ◌+◌, ◌<◌, ◌^◌, max, Bool, true, false, not, ◌&&◌, ◌||◌, cond, List, [], ◌∷◌, Option, Some, None, refl, sym, ap, ◌∙◌, subst, arith}
use Rattle.std.specs.Arc.{arc_value}
use Rattle.std.specs.declared.sync.Arc.{Arc}
use Rattle.std.specs.declared.alloc.Global.{Global}
use Rattle.std.specs.Cmp.{IsEquivalence}
use Rattle.std.specs.Option.{option_to_list}
use Rattle.std.specs.List.{list_any}
use Rattle.moka_model.specs.declared.notification.RemovalCause.TheVariants.{Expired, Explicit, Replaced}
use Rattle.moka_model.specs.Lives.{Settings, Write, is_live, has_come, rest, given, after_write}
use Rattle.moka_model.specs.Events.{Written}
use Rattle.moka_model.specs.Orders.{evicted, maintained}
use Rattle.moka_model.specs.OrderLaws.{held, HasOneEach}
use Rattle.moka_model.proofs.Callers.{held-maintained}
use Rattle.moka_expiration.specs.declared.expiration_policy.ExpirationPolicy.{ExpirationPolicy}
use Rattle.moka_expiration.specs.ExpirationPolicy.{own_of, IsDated, AreDated}
use Rattle.moka_rows.specs.declared.rows.Row.{Row}
use Rattle.moka_rows.specs.declared.rows.EntryInfo.{EntryInfo}
use Rattle.moka_model.specs.Removals.{cause_of}
use Rattle.moka_rows.specs.Rows.{row_under, overwritten, cause_at}
use Rattle.moka_table.specs.declared.table.Lookup.{Lookup}
use Rattle.moka_table.specs.declared.table.Lookup.TheVariants.{Stored, Absent}
use Rattle.moka_table.specs.declared.write_slot.WriteSlot.{WriteSlot}
use Rattle.moka_table.specs.declared.write_slot.WriteSlot.TheVariants.{Occupied, Vacant}
use Rattle.moka_table.specs.Lookup.{IsLookupOf}
use Rattle.moka_table.specs.WriteSlot.{IsSlotFor, IsSlotNow, IsInfoOf, Puts}
use Rattle.moka_table.specs.Table.{Contents, entries, stored_write}
use Rattle.moka_table.proofs.Callers.{of-row}
use Rattle.moka_state.specs.State.{stored_orders, IsSound}
use Rattle.moka_state.proofs.Becoming.{stored-same, becomes-opened, becomes-overwritten}
use Rattle.moka_expiration.proofs.Callers.{alive-kept, cause-kept}
use Rattle.moka_state.proofs.Held.{same-key, held-row, held-absent}
use Rattle.moka_state.proofs.Maintained.{HasLives}
use Rattle.moka_state.proofs.Sound.{IsSound-overwritten, IsSound-added}
use Rattle.moka_state.proofs.Views.{view_with, Becomes}

module _ {K V : Type 0} (eq : K → K → Bool) (laws : IsEquivalence eq) (key : K) (contents : Contents K V) where
  -- a slot that goes with a key among some rows
  abbrev pub GoesWith : WriteSlot K → Type 0
  GoesWith (Occupied n shared) = (row : Row K V) × (row_under n (entries contents) ≡ Some row) × (eq (arc_value row.key) key ≡ true) × (eq (arc_value shared) key ≡ true)
  GoesWith (Vacant shared) = arc_value shared ≡ key

  -- so does the slot by a lookup of it,
  pub goes_with-lookup : (hash : ℕ) (lookup : Lookup K) (slot : WriteSlot K) → IsLookupOf eq key hash (entries contents) lookup → IsSlotFor key lookup slot → GoesWith slot
  goes_with-lookup hash (Stored n stored) (Occupied m shared) is for_it =
      let same : eq (arc_value (is.0).key) key ≡ true = same-key eq key hash is.0 is.2 in
      (is.0, ap (λ i. row_under i (entries contents)) for_it.0 ∙ is.1, same, ap (λ a. eq (arc_value a) key) for_it.1 ∙ ap (λ a. eq a key) is.3 ∙ same)
  goes_with-lookup hash (Stored n stored) (Vacant shared) is for_it = absurd for_it
  goes_with-lookup hash Absent (Occupied m shared) is for_it = absurd for_it
  goes_with-lookup hash Absent (Vacant shared) is for_it = for_it

  -- and the slot once some of the rows have left
  pub goes_with-now : (before : List (ℕ × Row K V)) (hash : ℕ) (lookup : Lookup K) (own : Arc K Global) (slot : WriteSlot K) → arc_value own ≡ key → IsLookupOf eq key hash before lookup → IsSlotNow eq hash lookup own (entries contents) slot → GoesWith slot
  goes_with-now before hash (Stored n stored) own (Occupied m shared) owned is now =
      (now.1, now.2, same-key eq key hash now.1 (rw owned at now.3), ap (λ a. eq (arc_value a) key) now.0 ∙ ap (λ a. eq a key) is.3 ∙ same-key eq key hash is.0 is.2)
  goes_with-now before hash (Stored n stored) own (Vacant shared) owned is now = ap arc_value now.0 ∙ owned
  goes_with-now before hash Absent own (Occupied m shared) owned is now = absurd now
  goes_with-now before hash Absent own (Vacant shared) owned is now = ap arc_value now ∙ owned

  -- what is put to it for its key leaves the state sound
  pub IsSound-put : (keeps : K → V → Type 0) (hash_of : K → ℕ) (lives : ExpirationPolicy) (new : Contents K V) (hash : ℕ) (v : V) (info : EntryInfo) (slot : WriteSlot K) → ((a b : K) (w : V) → eq a b ≡ true → keeps a w → keeps b w)
      → hash ≡ hash_of key → keeps key v → IsSound keeps hash_of lives contents → GoesWith slot → Puts slot hash v info contents new → IsDated lives info → IsSound keeps hash_of lives new
  IsSound-put keeps hash_of lives new hash v info (Occupied n shared) alike hashed kept sound goes put dated =
      let row = goes.0 in
      let done = rw goes.1 at put in
      IsSound-overwritten keeps hash_of lives contents new sound n row v info _ goes.1 (alike key (arc_value row.key) v (laws.symm key (arc_value row.key) ∙ goes.2) kept)
      (λ was. alike (arc_value row.key) (arc_value shared) row.value (laws.congr (arc_value row.key) key (arc_value shared) goes.2 ∙ laws.symm key (arc_value shared) ∙ goes.3) was)
      done.0 done.1 dated
  IsSound-put keeps hash_of lives new hash v info (Vacant shared) alike hashed kept sound goes put dated =
      IsSound-added keeps hash_of lives contents new sound put.0 _ (hashed ∙ ap hash_of (sym goes)) (subst (λ k. keeps k v) (sym goes) kept) put.1 put.2 put.3 dated

  -- A slot is where the definitions write: over the write that is held for the key, whose stored key it has, or anew where
  -- none is held.
  abbrev pub IsWhere : WriteSlot K → Type 0
  IsWhere (Occupied n shared) = (row : Row K V) × (row_under n (entries contents) ≡ Some row) × (eq (arc_value row.key) key ≡ true) × (arc_value shared ≡ arc_value row.key)
  IsWhere (Vacant shared) = (held eq key (stored_orders contents) ≡ []) × (arc_value shared ≡ key)

  -- so is the slot by a lookup of the key
  pub where-lookup : {keeps : K → V → Type 0} {hash_of : K → ℕ} {lives : ExpirationPolicy} → IsSound keeps hash_of lives contents → ((a b : K) → eq a b ≡ true → hash_of a ≡ hash_of b)
      → (hash : ℕ) (lookup : Lookup K) (slot : WriteSlot K) → hash ≡ hash_of key → IsLookupOf eq key hash (entries contents) lookup → IsSlotFor key lookup slot → IsWhere slot
  where-lookup sound respects hash (Stored n stored) (Occupied m shared) hashed is for_it =
      (is.0, ap (λ i. row_under i (entries contents)) for_it.0 ∙ is.1, same-key eq key hash is.0 is.2, ap arc_value for_it.1 ∙ is.3)
  where-lookup sound respects hash (Stored n stored) (Vacant shared) hashed is for_it = absurd for_it
  where-lookup sound respects hash Absent (Occupied m shared) hashed is for_it = absurd for_it
  where-lookup {hash_of = hash_of} sound respects hash Absent (Vacant shared) hashed is for_it = (held-absent eq contents hash_of respects sound.hashed key hash hashed is, for_it)

  -- Once a value was put there, the view is that after a write.
  pub becomes-put : (settings : Settings K V) (lives : ExpirationPolicy) (expired_alike : HasLives settings lives) (frequency : List ℕ → ℕ → ℕ) (latest number : ℕ) → HasOneEach eq (stored_orders contents) → AreDated lives (entries contents)
      → (new : Contents K V) (v : V) (at hash weight : ℕ) (info : EntryInfo) (slot : WriteSlot K) → max latest at < 2 ^ 64 → IsWhere slot → hash ≡ settings.behaviour.hash key → weight ≡ settings.behaviour.weight key v
      → IsInfoOf settings.behaviour slot v weight (max latest at) contents info → Puts slot hash v info contents new
      → Becomes eq (view_with settings contents frequency latest number) (Written key v at) (view_with settings new frequency (max latest at) (number + 1))
  becomes-put settings lives expired_alike frequency latest number one dated new v at hash weight info (Occupied n shared) is_moment is hashed weighed kept put =
      let row = is.0 in
      let done = rw is.1 at put in
      let own = rw (is.1, is.3) at kept.own in
      let modified = kept.modified in
      let row_dated : IsDated lives row.info = of-row (λ (r : Row K V). IsDated lives r.info) n (entries contents) row dated is.1 in
      let live : is_live settings (stored_write row) (max latest at) ≡ not (row.info.is_hidden || has_come row.info.deadline (max latest at)) =
      ap (λ (expired : Row K V → ℕ → Bool). not row.info.is_hidden && not (expired row (max latest at))) expired_alike ∙ alive-kept lives row.info row_dated (max latest at) is_moment in
      let why : cause_of settings Replaced (stored_write row) (max latest at) ≡ cause_at Replaced row.info (max latest at) =
      ap (λ (expired : Row K V → ℕ → Bool). cond row.info.is_hidden Explicit (cond (expired row (max latest at)) Expired Replaced)) expired_alike ∙ cause-kept lives row.info row_dated (max latest at) is_moment Replaced in
      becomes-overwritten eq settings contents frequency latest number one new key at n row is.1 is.2 v info _
      (stored-same (after_write settings key v (max latest at) (Some (stored_write row))) (overwritten v info row) refl refl refl (sym (kept.weight_is ∙ weighed)) (sym modified) (sym kept.accessed)
      (ap (λ t. given (cond t (settings.behaviour.lifetimes.updated (arc_value row.key) v (max latest at) (rest (own_of row.info) (max latest at))) (settings.behaviour.lifetimes.created (arc_value row.key) v (max latest at))) (max latest at)) live ∙ sym own)
      (sym kept.shown))
      is.3 refl (rw modified (sym why)) done.0 done.1
  becomes-put settings lives expired_alike frequency latest number one dated new v at hash weight info (Vacant shared) is_moment is hashed weighed kept put =
      let own = rw is.1 at kept.own in
      let row : Row K V = record { key = shared; hash = hash; value = v; info = info } in
      becomes-opened eq settings contents frequency latest number new key v at put.0 row is.0
      (stored-same (after_write settings key v (max latest at) None) row (sym is.1) (sym hashed) refl (sym (kept.weight_is ∙ weighed)) (sym kept.modified) (sym kept.accessed) (sym own) (sym kept.shown))
      put.1 put.2 put.3

  -- so it is where the moment has just been recorded
  pub becomes-put-now : (settings : Settings K V) (lives : ExpirationPolicy) (expired_alike : HasLives settings lives) (frequency : List ℕ → ℕ → ℕ) (moment number : ℕ) → HasOneEach eq (stored_orders contents) → AreDated lives (entries contents)
      → (new : Contents K V) (v : V) (at hash weight : ℕ) (info : EntryInfo) (slot : WriteSlot K) → max moment at < 2 ^ 64 → IsWhere slot → hash ≡ settings.behaviour.hash key → weight ≡ settings.behaviour.weight key v
      → IsInfoOf settings.behaviour slot v weight (max moment at) contents info → Puts slot hash v info contents new
      → Becomes eq (view_with settings contents frequency (max moment at) number) (Written key v at) (view_with settings new frequency (max moment at) (number + 1))
  becomes-put-now settings lives expired_alike frequency moment number one dated new v at hash weight info slot is_moment is hashed weighed kept put =
      let idle : max (max moment at) at ≡ max moment at = omega arith in
      subst (λ m. Becomes eq (view_with settings contents frequency (max moment at) number) (Written key v at) (view_with settings new frequency m (number + 1))) idle
      (becomes-put settings lives expired_alike frequency (max moment at) number one dated new v at hash weight info slot (rw idle is_moment) is hashed weighed
      (subst (λ m. IsInfoOf settings.behaviour slot v weight m contents info) (sym idle) kept) put)

-- what is held after a maintenance was held before it
stood : {A : Type 0} (t : Bool) (x y : A) → y ∷ [] ≡ option_to_list (cond t None (Some x)) → y ≡ x
stood true x y is = cc
stood false x y is = cc

nothing_stood : {A : Type 0} (t : Bool) → ◌≡◌ {A = List A} (option_to_list (cond t None None)) []
nothing_stood true = refl
nothing_stood false = refl

-- After a maintenance of both orders, within a limit if there is one.
module _ {K V : Type 0} (eq : K → K → Bool) (laws : IsEquivalence eq) (settings : Settings K V) (frequency_of : ℕ → ℕ) (limit : Option ℕ) (now : ℕ) (contents kept : Contents K V) (one : HasOneEach eq (stored_orders contents))
    (is_maintained : stored_orders kept ≡ maintained settings frequency_of limit now (stored_orders contents)) where
  held-now : (k : K) (o : Option (Write K V)) → held eq k (stored_orders contents) ≡ option_to_list o
      → held eq k (stored_orders kept) ≡ option_to_list (cond (list_any (λ (w : Write K V). eq w.key k) (evicted settings frequency_of limit now (stored_orders contents))) None o)
  held-now k o here = ap (held eq k) is_maintained ∙ (held-maintained eq settings frequency_of k limit now (stored_orders contents) o here).1

  -- each key has one write at most still,
  pub one-stays : HasOneEach eq (stored_orders kept)
  one-stays k = (_, held-now k (one k).0 (one k).1)

  -- and the slot of a key that was looked for before is where the definitions write now
  pub where-now : (key : K) {keeps : K → V → Type 0} {hash_of : K → ℕ} {lives : ExpirationPolicy} → IsSound keeps hash_of lives contents → IsSound keeps hash_of lives kept
      → ((a b : K) → eq a b ≡ true → hash_of a ≡ hash_of b) → (hash : ℕ) (lookup : Lookup K) (own : Arc K Global) (slot : WriteSlot K) → hash ≡ hash_of key → arc_value own ≡ key
      → IsLookupOf eq key hash (entries contents) lookup → IsSlotNow eq hash lookup own (entries kept) slot → IsWhere eq laws key kept slot
  where-now key sound sound_then respects hash (Stored n stored) own (Occupied m shared) hashed owned is still =
      let same : eq (arc_value (still.1).key) key ≡ true = same-key eq key hash still.1 (rw owned at still.3) in
      let before = held-row eq contents one key n is.0 is.1 (same-key eq key hash is.0 is.2) in
      let then = held-row eq kept one-stays key m still.1 still.2 same in
      let it : stored_write still.1 ≡ stored_write is.0 = stood _ (stored_write is.0) (stored_write still.1) (sym then ∙ held-now key (Some (stored_write is.0)) before) in
      (still.1, still.2, same, ap arc_value still.0 ∙ is.3 ∙ ap (λ (w : Write K V). w.key) (sym it))
  where-now key {hash_of = hash_of} sound sound_then respects hash (Stored n stored) own (Vacant shared) hashed owned is still =
      (held-absent eq kept hash_of respects sound_then.hashed key hash hashed (rw owned at still.1), ap arc_value still.0 ∙ owned)
  where-now key sound sound_then respects hash Absent own (Occupied m shared) hashed owned is still = absurd still
  where-now key {hash_of = hash_of} sound sound_then respects hash Absent own (Vacant shared) hashed owned is still =
      (held-now key None (held-absent eq contents hash_of respects sound.hashed key hash hashed is) ∙ nothing_stood _, ap arc_value still ∙ owned)
