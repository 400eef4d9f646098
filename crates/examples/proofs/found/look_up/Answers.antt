-- What a caller concludes of an insert and a `get` after it.
use Rattle.std.proofs.Common.{◌≡◌, Bool, true, false, if◌then◌else◌, Option, Some, None, String, refl, ap, ◌∙◌, option_map}
use Rattle.std.specs.String.{string_bytes}
use Rattle.std.specs.Duration.{as_nanos}
use Rattle.std.specs.Cmp.{nat_eq_equiv}
use Rattle.std.specs.declared.alloc.Global.{Global}
use Rattle.moka.specs.Lives.{no_lifetimes}
use Rattle.moka.specs.Behaviour.{lifetimes_by}
use Rattle.moka.specs.Calls.{IsCopyOf}
use Rattle.moka.specs.StateData.{SettingsData}
use Rattle.moka.specs.Builder.{BuilderData}
use Rattle.moka.specs.Numbers.{stores_nothing}
use Rattle.moka.proofs.Callers.{found-in_time}
use Rattle.examples.proofs.found.look_up.Goals as goal

-- a clone has the same bytes
by-copy : (b : Bool) (name : String Global) (found : Option (String Global)) → IsCopyOf (λ n copy. string_bytes copy ≡ string_bytes n) (if b then None else Some name) found
    → option_map string_bytes found ≡ (if b then None else Some (string_bytes name))
by-copy true name None copy = refl
by-copy true name (Some other) copy = absurd copy
by-copy false name None copy = absurd copy
by-copy false name (Some other) copy = ap Some copy

no_lives : {K V X : Type 0} (expiry : Option X) → lifetimes_by {K = K} {V = V} (λ _. no_lifetimes) expiry ≡ no_lifetimes
no_lives None = refl
no_lives (Some expiry) = refl

pub returns : goal.returns
returns c =
    let kept = c.in_ok-cache.ensures.settings in
    let live = ap (λ (s : SettingsData _ _ _). s.time_to_live) kept ∙ ap (λ (told : BuilderData _ _ _). option_map as_nanos told.time_to_live) c.time_to_live.ensures ∙ ap Some c.from_secs.ensures in
    let idle = ap (λ (s : SettingsData _ _ _). s.time_to_idle) kept ∙ ap (λ (told : BuilderData _ _ _). option_map as_nanos told.time_to_idle) c.time_to_live.ensures ∙ ap (λ (told : BuilderData _ _ _). option_map as_nanos told.time_to_idle) c.new.ensures in
    let room = ap (λ (s : SettingsData _ _ _). s.max_capacity) kept ∙ ap (λ (told : BuilderData _ _ _). told.max_capacity) c.time_to_live.ensures ∙ ap (λ (told : BuilderData _ _ _). told.max_capacity) c.new.ensures in
    by-copy _ c.args.name c.in_ok-get.field-0
    (found-in_time _ _ nat_eq_equiv _ (no_lives c.in_ok-cache.cache.settings.behaviour.expiry) _ live idle (ap stores_nothing room) _ _ c.args.key c.args.key c.args.name c.args.now
    c.in_ok-get.field-0 c.in_ok-cache.ensures.empty c.in_ok-insert.ensures.ends.stands c.in_ok-get.ensures.ends.reply (nat_eq_equiv.refl c.args.key) _ refl)
