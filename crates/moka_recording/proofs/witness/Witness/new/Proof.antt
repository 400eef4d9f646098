-- The token becomes the one field of the witness.
use Rattle.atomic_table.proofs.Names.{◌≡◌, List, [], ◌∷◌, ◌++◌, refl, a_type, Val, vstruct, of_list, inst_fn, SProp, emp, Fml, fsep, ‵, raw, ◌⊛◌, ◌$◌, ◌∵◌, !, qed, by, keep, move, split, fjoin, fpack, feq_i, use0, of_opd, and_then, no_more, returns, enter, alloc_all, pass_all, free_all, look_at, get, sets, agg, tables, no, RattleType, Valss, owns, types_at, plain, nothing, param, layouts, alive, Stays, stay_dropped, Goes-dropped, walk_of, fact, fact_i}
use Rattle.atomic_table.proofs.Walks.{proved, leaves}
use Rattle.atomic_table.proofs.Fields.{token_val}
use base.Fml.{feq}
use Rattle.moka_recording.proofs.Witnesses.{witness_val, token_good, witness_good, TokenRow, WitnessRow, token_is}
use Rattle.moka_recording.specs.contracts.witness.Witness.new as f
use Rattle.moka_recording.proofs.witness.Witness.new.Statement.{statement}
use Rattle.moka_recording.proofs.witness.Witness.new.Code as code

pub new_spec : {M : Type 1} → statement M
new_spec 𝓤 𝓛 𝓜 𝓡 wired S R B _ _ _ =
    let H = 𝓛.H in
    let 𝓣 = tables 𝓤 H 𝓜 𝓡 𝓡.env in
    let Tk : RattleType = TokenRow (param 0 S) (param 1 R) (param 2 B) in
    let Wn : RattleType = WitnessRow (param 0 S) (param 1 R) (param 2 B) in
    let En = f.ended S R B in
    let c = f.clauses S R B 𝓛 𝓜.mem 𝓡.returns in
    let inst = layouts (a_type ∷ a_type ∷ a_type ∷ []) (S, (R, (B, tt))) in
    let fn = inst_fn inst code.function in
    let hs : Stays En.signature.params En.kept = (stay_dropped (plain (λ _. Tk)) no, tt) in
    proved 𝓛 En hs c 𝓜 𝓡 (Goes-dropped 𝓛 3 (plain (λ _. Tk)) no (λ κs x w. refl), tt)
    (f.Key.name inst) fn (code.unfolded 𝓤 H 𝓜 𝓡 wired (S, (R, (B, tt))))
    (λ κs. ((λ _. token_val ∷ []), tt)) (λ κs. (token_is (param 0 S) (param 1 R) (param 2 B), tt)) (λ κs qs bounds a gh are.
    let d : Tk.Denot = a.0 in
    let made : Wn.Denot = record { token = d } in
    let y : (walk_of 𝓛 En hs c).Ghost = ((κs, qs, bounds, a, (token_val ∷ [], tt)), gh) in
    let Post : Val → SProp 𝓤 = (walk_of 𝓛 En hs c).post y in
    let Inside : Valss (Tk ∷ []) → Fml = λ vss. fsep (feq (List Val) (witness_val ∷ []) (vstruct (of_list (vss.0 ++ [])) ∷ [])) (owns (Tk ∷ []) (d, tt) vss) in
    qed 𝓛 ((raw (alive 𝓛 En.signature κs qs) ⊛ ‵ (owns (types_at En.signature.params κs) a y.0.4)) ∷ raw ((c κs a).requires gh) ∷ []) ∵
    split ! $ keep ! (1 ∷ 0 ∷ []) $
    -- what the token owns is what the witness owns
    feq_i ! (List Val) (witness_val ∷ []) (witness_val ∷ []) refl $ fjoin ! $
    fpack ! (Valss (Tk ∷ [])) Inside (token_val ∷ [], tt) $
    nothing ! $ move ! (1 ∷ 0 ∷ []) $ fjoin ! $
    enter ! 𝓣.C 𝓣.Λ fn (token_val ∷ []) Post $ alloc_all ! (λ l. pass_all ! refl (token_good, tt) $
    sets ! (of_opd ! (get ! refl)) refl token_good $
    sets ! (agg ! (and_then ! (get ! refl) (no_more !))) refl witness_good $
    use0 𝓛 (raw (fact 𝓤 (d ≡ d))) (fact_i 𝓤 (d ≡ d) (emp 𝓤) refl) $
    nothing ! $ nothing ! $ fjoin ! $
    returns ! (look_at ! 0 refl) $ free_all ! refl $
    keep ! (3 ∷ 0 ∷ 2 ∷ 1 ∷ []) $ by ! (leaves 𝓛 En hs c y witness_val made (tt, tt) (tt, tt))))
