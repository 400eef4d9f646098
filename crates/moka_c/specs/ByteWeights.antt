-- What an entry of byte strings weighs.
use Rattle.std.specs.Prelude.{◌≡◌, ◌+◌, ℕ, true, List, length, min, nat_eq}
use Rattle.std.specs.Cmp.Lexicographic.{pointwise, same_text}
use Rattle.std.proofs.Math.Path.{ap, sym}

-- The bytes of the key and of the value, at most the greatest `u32`.
abbrev pub byte_weight : List ℕ → List ℕ → ℕ
byte_weight key value = min (length key + length value) 4294967295

-- Equal keys weigh alike.
pub equal-keys-weigh : (a b value : List ℕ) → pointwise nat_eq a b ≡ true → byte_weight a value ≡ byte_weight b value
equal-keys-weigh a b value same = ap (λ key. byte_weight key value) (same_text a b (sym same))
