-- The one field of the witness is its token.
use Rattle.atomic_table.proofs.Names.{◌≡◌, List, [], ◌∷◌, refl, a_type, Val, inst_fn, SProp, emp, ‵, raw, ◌⊛◌, ◌$◌, ◌∵◌, !, qed, by, keep, move, drop, split, fsplit, fsplit3, fjoin, fpick, rewrite, use0, stop, fld, of_opd, returns, enter, alloc_all, pass_all, free_all, look_at, get, get_in, sets, sub, whole, tables, no, RattleType, owns, types_at, plain, nothing, peeks, param, layouts, alive, Stays, stay_dropped, walk_of, fact, fact_i, Is, shows}
use Rattle.atomic_table.proofs.Walks.{proved, leaves}
use Rattle.atomic_table.proofs.Fields.{token_val}
use Rattle.std.proofs.alloc.Calls.{Goes-blank}
use Rattle.moka_recording.proofs.Witnesses.{witness_val, token_good, witness_good, TokenRow, WitnessRow, token_is, witness_is}
use Rattle.moka_recording.specs.contracts.witness.Witness.into_token as f
use Rattle.moka_recording.proofs.witness.Witness.into_token.Statement.{statement}
use Rattle.moka_recording.proofs.witness.Witness.into_token.Code as code

pub into_token_spec : {M : Type 1} → statement M
into_token_spec 𝓤 𝓛 𝓜 𝓡 wired S R B _ _ _ =
    let H = 𝓛.H in
    let 𝓣 = tables 𝓤 H 𝓜 𝓡 𝓡.env in
    let Tk : RattleType = TokenRow (param 0 S) (param 1 R) (param 2 B) in
    let Wn : RattleType = WitnessRow (param 0 S) (param 1 R) (param 2 B) in
    let En = f.ended S R B in
    let c = f.clauses S R B 𝓛 𝓜.mem 𝓡.returns in
    let inst = layouts (a_type ∷ a_type ∷ a_type ∷ []) (S, (R, (B, tt))) in
    let fn = inst_fn inst code.function in
    let hs : Stays En.signature.params En.kept = (stay_dropped (plain (λ _. Wn)) no, tt) in
    proved 𝓛 En hs c 𝓜 𝓡 (Goes-blank 𝓛 3 (plain (λ _. Wn)) no (λ κs x w. tt), tt)
    (f.Key.name inst) fn (code.unfolded 𝓤 H 𝓜 𝓡 wired (S, (R, (B, tt))))
    (λ κs. ((λ _. witness_val ∷ []), tt)) (λ κs. (witness_is (param 0 S) (param 1 R) (param 2 B), tt)) (λ κs qs bounds a gh are.
    let d : Tk.Denot = a.0.token in
    let y : (walk_of 𝓛 En hs c).Ghost = ((κs, qs, bounds, a, (witness_val ∷ [], tt)), gh) in
    let Post : Val → SProp 𝓤 = (walk_of 𝓛 En hs c).post y in
    qed 𝓛 ((raw (alive 𝓛 En.signature κs qs) ⊛ ‵ (owns (types_at En.signature.params κs) a y.0.4)) ∷ raw ((c κs a).requires gh) ∷ []) ∵
    -- of what the witness owns, only what its token owns matters
    split ! $ move ! (1 ∷ []) $ fsplit ! $ fsplit ! $ fpick ! (λ vss. fsplit3 ! $ drop ! $
    peeks ! Tk (Is Tk) (shows 𝓛 Tk) d vss.0 (λ so.
    rewrite ! 0 (λ (ws : List Val). ‵ (Tk.own_val d ws)) (token_is (param 0 S) (param 1 R) (param 2 B) d vss.0 so) refl $
    keep ! (0 ∷ 4 ∷ []) $
    enter ! 𝓣.C 𝓣.Λ fn (witness_val ∷ []) Post $ alloc_all ! (λ l. pass_all ! refl (witness_good, tt) $
    sets ! (of_opd ! (get_in ! (fld ! refl (stop !)) (sub ! 0 refl (whole !)))) refl token_good $
    sets ! (of_opd ! (get ! refl)) refl token_good $
    use0 𝓛 (raw (fact 𝓤 (d ≡ d))) (fact_i 𝓤 (d ≡ d) (emp 𝓤) refl) $
    nothing ! $ nothing ! $ fjoin ! $
    returns ! (look_at ! 0 refl) $ free_all ! refl $
    keep ! (3 ∷ 0 ∷ 2 ∷ 1 ∷ []) $ by ! (leaves 𝓛 En hs c y token_val d ((tt, tt), tt) (tt, tt))))))
