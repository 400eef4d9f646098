-- A struct that holds the box of a cache for C: a pointer, the handle of the heap, and the value as a ghost field. What the proofs of its functions share.
--     Holding              such a struct: the row of what is in the box, with its laws, and how the struct is made of its fields
--     box_of, PartsOf      the box on the heap, and its parts
--     of_parts_meets, into_parts_meets, empty_meets     code that moves the fields of the parts into the struct, those of the struct into the parts, and a pointer and a handle into the struct
use mathlib.Core.Path.{◌≡◌, refl, sym, subst, ap, ◌∙◌}
use mathlib.Core.List.{List, [], ◌∷◌, ◌++◌}
use seplogic.Ra.Ura.{Ura}
use mir.Syntax.{Fn, Callee, Sym, Ty, impl, tnil, tcons, dnil, ty_ptr, ty_struct, local, value_local, place, field, copy, assign, rv_opd, aggregate, seq, return}
use mir.Val.{Val, vstruct, vcons, vnil}
use base.Logic.{SProp, ent, emp, via, fst∗}
use base.Fml.{Fml, ftrue, fsep}
use prog.Model.{Model}
use prog.Wp.{WpFn, Closed}
use types.Logic.{Logic}
use contract.Monad.{fact}
use contract.Running.{Running, MachineTables, tables}
use types.Kit.{Item, ‵, raw, ◌⊛◌, ◌$◌, ◌∵◌, !, qed, by, move, drop, join, split, fsplit, fsplit3, fjoin, fpack, feq_i, rewrite, suffices, done}
use types.Part.{whole, sub, agg}
use types.Run.{stop, fld, no_more, and_then, of_opd, returns, enter}
use types.ByLocal.{alloc_all, pass_all, free_all, look_at, get, get_in, sets}
use denote.Exit.{yes, Last, left}
use denote.RattleType.{RattleType, Valss}
use denote.Param.{layout, param}
use denote.Param.Laws.{Laws}
use denote.RawPtr.{Ptr, RawPtr, block_ptr, null_ptr, ptr_val, rawptr_vals, rawptr_Tells}
use denote.Signature.{plain}
use denote.Steps.{nothing}
use denote.Struct.Struct.{Shape, Struct, within}
use denote.Triple.Clauses.{Ended, Clauses, closing}
use denote.Triple.Entry.{on_entry}
use denote.Triple.Spec.{Meets}
use denote.Triple.Walked.{says, needs, Stays, stay_dropped, walk_of, ends_at, Goes-dropped}
use Rattle.std.proofs.raw_atomic.Walks.{proved, proved_at}
use Rattle.std.proofs.cell.Inside.{Good}
use Rattle.std.proofs.Common.{lit<}
use Rattle.std.proofs.Handle.{heap_val, heap_Tells}
use Rattle.std.proofs.alloc.Calls.{α}
use Rattle.std.proofs.BoxSteps.Form.{Bx, D, B, word, box_typed}
use Rattle.std.proofs.BoxSteps.Steps.{box_out, box_in}
use Rattle.std.specs.Prelude.{Option, Some, None, IsSome}
use Rattle.std.proofs.lemmas.Bool.{false≢true}
use Rattle.std.specs.Global.{Global}
use Rattle.std.specs.Box.Ownership.{box_owns}
use Rattle.moka_c.specs.Held.{box_held}
use Rattle.moka_c.specs.contracts.parts.Parts as Parts
use Rattle.std.specs.contracts.alloc.Global as Heap
use Rattle.std.specs.contracts.impls.GlobalAllocator.TheImpl.{ghosts, dict}
use Rattle.std.proofs.alloc.Global.TheLaws as heap

abbrev heap_box : (row : RattleType) → Laws row → Bx
heap_box row laws = record { row = row; laws = laws; al = record { row = Heap.the_row; laws = heap.the_row_laws; g = ghosts; d = dict; drops = impl [] tnil dnil } }

-- a struct of a pointer and a handle, under any name
abbrev struct_of : Bx → Sym → Ty
struct_of E name = ty_struct name (tcons ty_ptr (tcons (α E.al) tnil))

-- what a pointer and a handle own in such a struct
abbrev pair : Shape
pair = record { name = []; args = []; types = []; fields = RawPtr ∷ Heap.the_row ∷ [] }

abbrev pair_owns : Ptr → Global → List Val → Fml
pair_owns p a vs = (Struct pair).own_val (p, (a, tt)) vs

-- the value of an option that has one
the_value : {T : Type 0} → (o : Option T) → IsSome o → (x : T) × (o ≡ Some x)
the_value None h = absurd (false≢true h)
the_value (Some x) h = (x, refl)

-- ---- two fields are moved, and what they own goes with them
-- a value of `From` that owns what a box owns, as the value of `To` that does
record Hands (E : Bx) (From To : RattleType) (gives : From.Denot → To.Denot → Type 0) (x : From.Denot) : Type 1 where
  pub box : D E
  pub opens : (vs : List Val) → From.own_val x vs ≡ (B E).own_val box vs
  pub made : To.Denot
  pub closes : (vs : List Val) → (B E).own_val box vs ≡ To.own_val made vs
  pub holds : gives x made
  pub last : Last (From.exit yes) x

module _ (E : Bx) (from to : Sym) where
  abbrev moving : Fn
  moving = record {
    lifetimes = 0;
    outlives = [];
    ty_params = [];
    givens = 0;
    params = 1;
    locals = local (struct_of E to) value_local ∷ local (struct_of E from) value_local ∷ local ty_ptr value_local ∷ local (α E.al) value_local ∷ [];
    body = seq (assign (place 2 []) (rv_opd (copy (place 1 (field 0 ∷ []))))) (seq (assign (place 3 []) (rv_opd (copy (place 1 (field 1 ∷ [])))))
        (seq (assign (place 0 []) (aggregate (copy (place 2 []) ∷ copy (place 3 []) ∷ []))) return));
  }

module _ (From To : RattleType) where
  abbrev ended : Ended
  ended = record { signature = record { lifetimes = 0; outlives = []; params = plain (λ _. From) ∷ []; result = plain (λ _. To) }; kept = (yes, tt) }

  abbrev stayed : Stays ended.signature.params ended.kept
  stayed = (stay_dropped (plain (λ _. From)) yes, tt)

  module _ (gives : From.Denot → To.Denot → Type 0) {M : Type 1} {𝓤 : Ura M} (𝓛 : Logic 𝓤) (asks : From.Denot → SProp 𝓤) where
    abbrev clauses : Clauses 𝓤 ended
    clauses κs a = record { ghost = Unit {0}; requires = λ _. asks a.0; ensures = λ _ r _. fact 𝓤 (gives a.0 r) }

module _ (E : Bx) (from to : Sym) (From To : RattleType) (gives : From.Denot → To.Denot → Type 0) where
  module _ {M : Type 1} {𝓤 : Ura M} (𝓛 : Logic 𝓤) (asks : From.Denot → SProp 𝓤) where
    open 𝓛 use {H}

    abbrev T : Ended
    T = ended From To

    abbrev s : Stays T.signature.params T.kept
    s = stayed From To

    abbrev c : Clauses 𝓤 T
    c = clauses From To gives 𝓛 asks

    module _ (𝓜 : Model 𝓤 H) (𝓡 : Running 𝓤 H 𝓜) where
      abbrev 𝓣 : MachineTables 𝓤 H 𝓜
      𝓣 = tables 𝓤 H 𝓜 𝓡 𝓡.env

      walk : (z : (walk_of 𝓛 T s c).Ghost) → Hands E From To gives z.0.3.0
          → ent 𝓤 (on_entry 𝓛 T.signature z.0.0 z.0.1 z.0.3 z.0.4) (WpFn 𝓤 H 𝓣.C 𝓣.Λ (moving E from to) (z.0.4.0 ++ []) ((walk_of 𝓛 T s c).post z))
      walk z h =
          let Post = (walk_of 𝓛 T s c).post z in
          let v = h.box in
          qed 𝓛 ((‵ ftrue ⊛ ‵ (fsep (From.own_val z.0.3.0 z.0.4.0) ftrue)) ∷ []) ∵ split ! $ drop ! $ fsplit ! $ rewrite ! 0 (λ (F : Fml). ‵ F) (h.opens z.0.4.0) refl $
          box_out E ! v z.0.4.0 (λ b o hv e ws fa. box_in E ! v b o v.value e refl $
          let w = word E hv b o in
          rewrite ! 0 (λ (F : Fml). ‵ F) (h.closes (w ∷ [])) refl $ move ! (1 ∷ []) $ drop ! $
          let Γ : List (Item 𝓤) = ‵ (To.own_val h.made (w ∷ [])) ∷ [] in
          by ! (subst (λ (us : List Val). ent 𝓤 (types.Kit.⋆ 𝓛 Γ) (WpFn 𝓤 H 𝓣.C 𝓣.Λ (moving E from to) (us ++ []) Post)) (sym ws)
          (qed 𝓛 Γ ∵ enter ! 𝓣.C 𝓣.Λ (moving E from to) (w ∷ []) _ $ alloc_all ! (λ ls. pass_all ! refl (box_typed E hv b o fa, tt) $
          sets ! (of_opd ! (get_in ! (fld ! refl (stop !)) (sub ! 0 refl (whole !)))) refl (tt, tt) $ sets ! (of_opd ! (get_in ! (fld ! refl (stop !)) (sub ! 1 refl (whole !)))) refl fa $
          sets ! (agg ! (and_then ! (get ! refl) (and_then ! (get ! refl) (no_more !)))) refl (box_typed E hv b o fa) $ returns ! (look_at ! 0 refl) $ free_all ! refl $
          suffices ! _ (ends_at 𝓛 T s c z w h.made (h.last, tt) (tt, tt)) $ says ! h.holds $
          nothing ! $ nothing ! $ fjoin ! $ join ! $ nothing ! $ join ! $ done !))))

      moved : ((x : From.Denot) (f : Last (From.exit yes) x) → left (From.exit yes) x f ≡ ftrue)
          → ((z : (walk_of 𝓛 T s c).Ghost) → ent 𝓤 ((walk_of 𝓛 T s c).pre z) (WpFn 𝓤 H 𝓣.C 𝓣.Λ (moving E from to) (z.0.4.0 ++ []) ((walk_of 𝓛 T s c).post z)))
          → (k : Callee) → Closed 𝓤 H 𝓣.C 𝓣.Λ k (moving E from to) → Meets 𝓛 T.signature (𝓣.C k) (closing 𝓛 T c)
      moved silent walks k closed = proved_at 𝓛 T s c 𝓜 𝓡 (Goes-dropped 𝓛 0 (plain (λ _. From)) yes (λ κs. silent), tt) k (moving E from to) closed (λ z are. walks z)

  module _ {M : Type 1} {𝓤 : Ura M} (𝓛 : Logic 𝓤) (𝓜 : Model 𝓤 𝓛.H) (𝓡 : Running 𝓤 𝓛.H 𝓜) (silent : (x : From.Denot) (f : Last (From.exit yes) x) → left (From.exit yes) x f ≡ ftrue) where
    -- it asks nothing
    handed : ((x : From.Denot) → Hands E From To gives x) → (k : Callee) → Closed 𝓤 𝓛.H (tables 𝓤 𝓛.H 𝓜 𝓡 𝓡.env).C (tables 𝓤 𝓛.H 𝓜 𝓡 𝓡.env).Λ k (moving E from to)
        → Meets 𝓛 (ended From To).signature ((tables 𝓤 𝓛.H 𝓜 𝓡 𝓡.env).C k) (closing 𝓛 (ended From To) (clauses From To gives 𝓛 (λ x. emp 𝓤)))
    handed hands = moved 𝓛 (λ x. emp 𝓤) 𝓜 𝓡 silent (λ z. via 𝓤 (on_entry 𝓛 (ended From To).signature z.0.0 z.0.1 z.0.3 z.0.4) (fst∗ 𝓤 (on_entry 𝓛 (ended From To).signature z.0.0 z.0.1 z.0.3 z.0.4) (emp 𝓤)) (walk 𝓛 (λ x. emp 𝓤) 𝓜 𝓡 z (hands z.0.3.0)))

    -- it asks a fact
    handed_if : (asks : From.Denot → Type 0) → ((x : From.Denot) → asks x → Hands E From To gives x) → (k : Callee)
        → Closed 𝓤 𝓛.H (tables 𝓤 𝓛.H 𝓜 𝓡 𝓡.env).C (tables 𝓤 𝓛.H 𝓜 𝓡 𝓡.env).Λ k (moving E from to)
        → Meets 𝓛 (ended From To).signature ((tables 𝓤 𝓛.H 𝓜 𝓡 𝓡.env).C k) (closing 𝓛 (ended From To) (clauses From To gives 𝓛 (λ x. fact 𝓤 (asks x))))
    handed_if asks hands = moved 𝓛 (λ x. fact 𝓤 (asks x)) 𝓜 𝓡 silent (λ z. needs 𝓤 (asks z.0.3.0) (on_entry 𝓛 (ended From To).signature z.0.0 z.0.1 z.0.3 z.0.4) (λ fits. walk 𝓛 (λ x. fact 𝓤 (asks x)) 𝓜 𝓡 z (hands z.0.3.0 fits)))

-- ---- the functions of such a struct
pub record Holding : Type 2 where
  pub row : RattleType
  pub laws : Laws row
  pub Held : RattleType
  pub name : Sym
  pub at : Held.Denot → Ptr
  pub alloc : Held.Denot → Global
  pub held : Held.Denot → Option row.Denot
  pub make : Ptr → Global → Option row.Denot → Held.Denot
  pub has : (p : Ptr) (a : Global) (o : Option row.Denot) → held (make p a o) ≡ o
  pub owns : (x : Held.Denot) (vs : List Val) → Held.own_val x vs ≡ fsep (pair_owns (at x) (alloc x) vs) (box_held row (alloc x) (at x) (held x))
  pub owned : (p : Ptr) (a : Global) (o : Option row.Denot) (vs : List Val) → fsep (pair_owns p a vs) (box_held row a p o) ≡ Held.own_val (make p a o) vs
  -- the box owns it as that of a type parameter
  pub boxed : (a : Global) (p : Ptr) (x : row.Denot) → box_owns (ghosts.dealloc_token a) row p x ≡ box_owns (ghosts.dealloc_token a) (param 0 row) p x
  pub last : (x : Held.Denot) → Last (Held.exit yes) x
  pub silent : (x : Held.Denot) (f : Last (Held.exit yes) x) → left (Held.exit yes) x f ≡ ftrue

module _ (S : Holding) where
  abbrev box_of : Bx
  box_of = heap_box S.row S.laws

  abbrev PartsOf : RattleType
  PartsOf = Parts.the_row S.row Heap.the_row ghosts

  abbrev parts_name : Sym
  parts_name = (Parts.the_type S.row Heap.the_row ghosts).name

  abbrev filled : PartsOf.Denot → S.Held.Denot → Type 0
  filled p h = S.held h ≡ Some p.value

  -- the parts own what the box owns
  as_box : (p : Ptr) (a : Global) (x : (S.row).Denot) (vs : List Val)
      → fsep (pair_owns p a vs) (box_owns (ghosts.dealloc_token a) S.row p x) ≡ (B box_of).own_val (record { ptr = p; alloc = a; value = x }) vs
  as_box p a x vs = ap (λ (F : Fml). fsep (pair_owns p a vs) F) (S.boxed a p x)

  into : (h : S.Held.Denot) → IsSome (S.held h) → Hands box_of S.Held PartsOf (λ x p. filled p x) h
  into h some =
      let x = (the_value (S.held h) some).0 in let is = (the_value (S.held h) some).1 in
      record {
        box = record { ptr = S.at h; alloc = S.alloc h; value = x };
        opens = λ vs. S.owns h vs ∙ ap (λ (o : Option (S.row).Denot). fsep (pair_owns (S.at h) (S.alloc h) vs) (box_held S.row (S.alloc h) (S.at h) o)) is ∙ as_box (S.at h) (S.alloc h) x vs;
        made = record { ptr = S.at h; alloc = S.alloc h; value = x };
        closes = λ vs. sym (as_box (S.at h) (S.alloc h) x vs);
        holds = is;
        last = S.last h;
      }

  abbrev empties : Ended
  empties = record { signature = record { lifetimes = 0; outlives = []; params = plain (λ _. RawPtr) ∷ plain (λ _. Heap.the_row) ∷ []; result = plain (λ _. S.Held) }; kept = (yes, (yes, tt)) }

  abbrev left_nothing : Stays empties.signature.params empties.kept
  left_nothing = (stay_dropped (plain (λ _. RawPtr)) yes, (stay_dropped (plain (λ _. Heap.the_row)) yes, tt))

  abbrev making : Fn
  making = record {
    lifetimes = 0;
    outlives = [];
    ty_params = [];
    givens = 0;
    params = 2;
    locals = local (struct_of box_of S.name) value_local ∷ local ty_ptr value_local ∷ local (layout Heap.the_row) value_local ∷ [];
    body = seq (assign (place 0 []) (aggregate (copy (place 1 []) ∷ copy (place 2 []) ∷ []))) return;
  }

  -- the machine values are of their types
  Ptr-Good : (p : Ptr) → Good ty_ptr (ptr_val p)
  Ptr-Good (block_ptr b o) = (tt, tt)
  Ptr-Good null_ptr = (tt, record { fits = lit< tt })

  heap_good : Good (layout Heap.the_row) heap_val
  heap_good = (tt, ((tt, tt), tt))

  typed : (p : Ptr) → Good (struct_of box_of S.name) (vstruct (vcons (ptr_val p) (vcons heap_val vnil)))
  typed (block_ptr b o) = (tt, (tt, (((tt, tt), tt), tt)))
  typed null_ptr = (tt, (record { fits = lit< tt }, (((tt, tt), tt), tt)))

  module _ {M : Type 1} {𝓤 : Ura M} (𝓛 : Logic 𝓤) where
    abbrev gives_empty : Clauses 𝓤 empties
    gives_empty κs a = record { ghost = Unit {0}; requires = λ _. emp 𝓤; ensures = λ _ r _. fact 𝓤 (S.held r ≡ None) }

    module _ (𝓜 : Model 𝓤 𝓛.H) (𝓡 : Running 𝓤 𝓛.H 𝓜) where
      abbrev 𝓢 : MachineTables 𝓤 𝓛.H 𝓜
      𝓢 = tables 𝓤 𝓛.H 𝓜 𝓡 𝓡.env

      pub of_parts_meets : (k : Callee) → Closed 𝓤 𝓛.H 𝓢.C 𝓢.Λ k (moving box_of parts_name S.name) → Meets 𝓛 (ended PartsOf S.Held).signature (𝓢.C k) (closing 𝓛 (ended PartsOf S.Held) (clauses PartsOf S.Held filled 𝓛 (λ p. emp 𝓤)))
      of_parts_meets = handed box_of parts_name S.name PartsOf S.Held filled 𝓛 𝓜 𝓡 (λ x f. refl) (λ p. record {
        box = record { ptr = p.ptr; alloc = p.alloc; value = p.value };
        opens = as_box p.ptr p.alloc p.value;
        made = S.make p.ptr p.alloc (Some p.value);
        closes = λ vs. sym (as_box p.ptr p.alloc p.value vs) ∙ S.owned p.ptr p.alloc (Some p.value) vs;
        holds = S.has p.ptr p.alloc (Some p.value);
        last = tt;
      })

      pub into_parts_meets : (k : Callee) → Closed 𝓤 𝓛.H 𝓢.C 𝓢.Λ k (moving box_of S.name parts_name) → Meets 𝓛 (ended S.Held PartsOf).signature (𝓢.C k)
          (closing 𝓛 (ended S.Held PartsOf) (clauses S.Held PartsOf (λ h p. filled p h) 𝓛 (λ h. fact 𝓤 (IsSome (S.held h)))))
      into_parts_meets = handed_if box_of S.name parts_name S.Held PartsOf (λ h p. filled p h) 𝓛 𝓜 𝓡 S.silent (λ h. IsSome (S.held h)) into

      pub empty_meets : (k : Callee) → Closed 𝓤 𝓛.H 𝓢.C 𝓢.Λ k making → Meets 𝓛 empties.signature (𝓢.C k) (closing 𝓛 empties gives_empty)
      empty_meets k closed =
          let W = walk_of 𝓛 empties left_nothing gives_empty in
          proved 𝓛 empties left_nothing gives_empty 𝓜 𝓡 (Goes-dropped 𝓛 0 (plain (λ _. RawPtr)) yes (λ κs x w. refl), (Goes-dropped 𝓛 0 (plain (λ _. Heap.the_row)) yes (λ κs x w. refl), tt))
          k making closed (λ κs. (rawptr_vals, ((λ _. heap_val ∷ []), tt))) (λ κs. (rawptr_Tells, (heap_Tells, tt))) (λ κs qs bounds a _ are.
          let p : Ptr = a.0 in let h = a.1.0 in
          let w : Val = vstruct (vcons (ptr_val p) (vcons heap_val vnil)) in
          let y : W.Ghost = ((κs, qs, bounds, a, (rawptr_vals p, (heap_val ∷ [], tt))), tt) in
          qed 𝓛 ((‵ ftrue ⊛ ‵ (fsep (RawPtr.own_val p (rawptr_vals p)) (fsep (Heap.the_row.own_val h (heap_val ∷ [])) ftrue))) ∷ raw (emp 𝓤) ∷ []) ∵ split ! $ drop ! $ fsplit3 ! $ move ! (3 ∷ []) $ drop ! $
          enter ! _ _ _ _ _ $ alloc_all ! (λ l. pass_all ! refl (Ptr-Good p, (heap_good, tt)) $
          sets ! (agg ! (and_then ! (get ! refl) (and_then ! (get ! refl) (no_more !)))) refl (typed p) $ returns ! (look_at ! 0 refl) $ free_all ! refl $
          -- [the pointer; the handle of the heap; nothing]
          move ! (1 ∷ 2 ∷ []) $ fjoin ! $ move ! (1 ∷ 0 ∷ []) $ fjoin ! $ feq_i ! (List Val) (w ∷ []) (w ∷ []) refl $ fjoin ! $
          fpack ! (Valss (RawPtr ∷ Heap.the_row ∷ [])) (within pair (p, (h, tt)) (w ∷ [])) (ptr_val p ∷ [], (heap_val ∷ [], tt)) $
          nothing ! $ move ! (1 ∷ 0 ∷ []) $ fjoin ! $ rewrite ! 0 (λ (F : Fml). ‵ F) (S.owned p h None (w ∷ [])) refl $
          suffices ! _ (ends_at 𝓛 empties left_nothing gives_empty y w (S.make p h None) (tt, (tt, tt)) (tt, (tt, tt))) $ says ! (S.has p h None) $
          nothing ! $ nothing ! $ fjoin ! $ nothing ! $ fjoin ! $ join ! $ nothing ! $ join ! $ done !))
