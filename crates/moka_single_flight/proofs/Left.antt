-- What is left of the limit on rounds.
use Rattle.std.proofs.Common.{◌≡◌, ℕ, zero, suc, Option, Some, None, subst, arith}
use Rattle.moka_single_flight.specs.declared.replies.Begun.{Begun}
use Rattle.moka_single_flight.specs.declared.replies.Collected.{Collected}
use Rattle.moka_single_flight.specs.declared.replies.Joined.TheVariants.{TooMany}
use Rattle.moka_single_flight.specs.Rounds.{Fewer, IsLeft, IsOneLess, Rounds, Ends}

-- at first the whole limit is left
pub all_left : (max_retries : Option ℕ) → IsLeft max_retries max_retries 0
all_left None = tt
all_left (Some max_retries) = omega arith

-- if one more is allowed, those so far are fewer than the limit
pub fewer : (max_retries left rest : Option ℕ) (n : ℕ) → IsLeft max_retries left n → IsOneLess left rest → Fewer max_retries n
fewer None None None n h l = tt
fewer (Some max_retries) (Some left) (Some rest) n h l = omega arith
fewer None (Some left) rest n h l = absurd h
fewer (Some max_retries) None rest n h l = absurd h
fewer (Some max_retries) (Some left) None n h l = absurd l
fewer None None (Some rest) n h l = absurd l

-- after one more, one fewer is left
pub one_more : (max_retries left rest : Option ℕ) (n : ℕ) → IsLeft max_retries left n → IsOneLess left rest → IsLeft max_retries rest (suc n)
one_more None None None n h l = tt
one_more (Some max_retries) (Some left) (Some rest) n h l = omega arith
one_more None (Some left) rest n h l = absurd h
one_more (Some max_retries) None rest n h l = absurd h
one_more (Some max_retries) (Some left) None n h l = absurd l
one_more None None (Some rest) n h l = absurd l

module _ {P V T K : Type 0} (begun : P → Begun V T K → P → Type 0) (collected : P → K → Collected V K → P → Type 0) where
  -- if none is left, there were as many as the limit
  pub used_up : (max_retries left : Option ℕ) (n : ℕ) (s u : P) → IsLeft max_retries left n → left ≡ Some 0 → Rounds begun collected n s u
      → Ends {V = V} {T = T} begun collected max_retries s TooMany u
  used_up None None n s u h e r = absurd (cc)
  used_up None (Some left) n s u h e r = absurd h
  used_up (Some max_retries) None n s u h e r = absurd h
  used_up (Some max_retries) (Some zero) n s u h e r = let same : n ≡ max_retries = omega arith in subst (λ k. Rounds begun collected k s u) same r
  used_up (Some max_retries) (Some (suc left)) n s u h e r = absurd (cc)
