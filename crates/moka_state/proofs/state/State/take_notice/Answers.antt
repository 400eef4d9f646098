use Rattle.std.proofs.Common.{◌≡◌, ◌++◌, List, [], drop, map, Option, Some, None, ◌∙◌, sym, refl}
use Rattle.std.specs.Option.{option_to_list}
use Rattle.moka_model.specs.Events.{Taken}
use Rattle.moka_model.specs.Calls.{TakeNotice}
use Rattle.moka_table.specs.Table.{removal_of}
use Rattle.moka_state.proofs.Becoming.{becomes-taken}
use Rattle.moka_state.proofs.Views.{follows-event}
use Rattle.moka_state.proofs.state.State.take_notice.Goals as goal

-- what is left behind the first, if there is one
drop-first : {A B : Type 0} (f : A → B) (o : Option A) (old new : List A) → old ≡ option_to_list o ++ new → (o ≡ None → old ≡ []) → map f new ≡ drop 1 (map f old)
drop-first f None old new e none = let h = none refl in let nothing : new ≡ [] = sym e ∙ h in rw (nothing, h) refl
drop-first f (Some x) old new e none = rw e refl

pub returns-clause-stands : goal.returns-clause-stands
returns-clause-stands g c =
    let s = c.self.inside in
    rw (← c.self.view_is) (follows-event g.K.PartialEq.eq g.met.K.Eq.laws _ _ TakeNotice Taken (λ _ _. refl)
    (λ _. becomes-taken g.K.PartialEq.eq _ s.table _ s.latest s.next_number c.take_notice.new.self c.take_notice.ensures.admitted c.take_notice.ensures.waiting
    (drop-first removal_of c.take_notice.result s.table.notices c.take_notice.new.self.notices c.take_notice.ensures.notices (λ e. rw e at c.take_notice.ensures.none))))
