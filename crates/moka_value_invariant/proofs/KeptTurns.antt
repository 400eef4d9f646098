-- After a move that satisfies `keeps`, all turns do.
use Rattle.std.proofs.Common.{◌≡◌, ⊎_elim, inl, inr, ℕ, Option, Some, None, List, [], ◌∷◌, refl, subst}
use Rattle.std.specs.Option.{IfSome}
use Rattle.std.specs.List.{AllByRecursion}
use Rattle.moka_model.specs.Turns.{Turn, Move, Opened, Waited, Ended, Spent, IsIn, opening, waited_for, ended_with, spent, moved_by}
use Rattle.moka_model.proofs.Callers.{in_append, Was, changed, left, in_numbered}
use Rattle.moka_value_invariant.specs.Keeps.{EndKeeps, TurnKeeps}

module _ {A : Type 0} (P : A → Type 0) where
  pub each-of : (xs : List A) → AllByRecursion P xs → (x : A) → IsIn x xs → P x
  each-of [] all x is = absurd is
  each-of (y ∷ ys) all x (inl same) = subst P same all.0
  each-of (y ∷ ys) all x (inr is) = each-of ys all.1 x is

  pub all-of : (xs : List A) → ((x : A) → IsIn x xs → P x) → AllByRecursion P xs
  all-of [] each = tt
  all-of (x ∷ xs) each = (each x (inl refl), all-of xs (λ y is. each y (inr is)))

module _ {K V E : Type 0} (keeps : K → V → Type 0) where
  -- A move satisfies `keeps` if the value kept aside and the end do, with the keys of their turns.
  abbrev pub MoveKeeps : List (Turn K V E) → Option (Move K V E) → Type 0
  MoveKeeps ts None = Unit {0}
  MoveKeeps ts (Some (Opened name shown kept)) = IfSome kept (keeps name.key)
  MoveKeeps ts (Some (Waited number)) = Unit {0}
  MoveKeeps ts (Some (Ended number end)) = (t : Turn K V E) → IsIn t ts → t.name.number ≡ number → EndKeeps keeps t.name.key end
  MoveKeeps ts (Some (Spent number)) = Unit {0}

  -- a change of what is no value of a turn
  changed-keeps : (number : ℕ) (change : Turn K V E → Turn K V E) → ((u : Turn K V E) → u.name.number ≡ number → TurnKeeps keeps u → TurnKeeps keeps (change u)) → (u t : Turn K V E) → Was number change u t → TurnKeeps keeps u → TurnKeeps keeps t
  changed-keeps number change kept u t (changed here same) keep = subst (TurnKeeps keeps) same (kept u here keep)
  changed-keeps number change kept u t (left other same) keep = subst (TurnKeeps keeps) same keep

  pub moved-keep : (ts : List (Turn K V E)) (m : Option (Move K V E)) → MoveKeeps ts m → AllByRecursion (TurnKeeps keeps) ts → AllByRecursion (TurnKeeps keeps) (moved_by m ts)
  moved-keep ts m move all = all-of (TurnKeeps keeps) (moved_by m ts) (each m move)
    where
      before : (t : Turn K V E) → IsIn t ts → TurnKeeps keeps t
      before = each-of (TurnKeeps keeps) ts all

      each : (m : Option (Move K V E)) → MoveKeeps ts m → (t : Turn K V E) → IsIn t (moved_by m ts) → TurnKeeps keeps t
      each None move t is = before t is
      each (Some (Opened name shown kept)) move t is =
          ⊎_elim (λ here. before t here) (λ last. ⊎_elim (λ same. subst (TurnKeeps keeps) same (move, tt)) (λ none. absurd none) last) (in_append t ts (opening name shown kept ∷ []) is)
      each (Some (Waited number)) move t is = let it = in_numbered number waited_for t ts is in changed-keeps number waited_for (λ u here keep. keep) it.0 t it.2 (before it.0 it.1)
      each (Some (Ended number end)) move t is =
          let it = in_numbered number (ended_with end) t ts is in
          ended it.0 it.1 it.2
        where
          ended : (u : Turn K V E) → IsIn u ts → Was number (ended_with end) u t → TurnKeeps keeps t
          ended u is (changed here same) = subst (TurnKeeps keeps) same ((before u is).0, move u is here)
          ended u is (left other same) = subst (TurnKeeps keeps) same (before u is)
      each (Some (Spent number)) move t is = let it = in_numbered number spent t ts is in changed-keeps number spent (λ u here keep. keep) it.0 t it.2 (before it.0 it.1)
