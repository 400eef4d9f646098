-- The hash function that maps a number to itself.
use Rattle.std.proofs.Common.{◌≡◌, ℕ, ◌+◌, ◌*◌, ◌/◌, ◌%◌, ◌^◌, ◌<◌, [], ◌∷◌, ap, ◌∙◌, arith}
use Rattle.std.specs.Hash.{le_bytes}
use Rattle.moka_policy.specs.NumberHash.{byte_hash, number_hash}

-- one more byte moves all others down
moved : (rest low byte : ℕ) → byte_hash (rest + 256 * low) byte ≡ rest / 256 + (low + byte * 2 ^ 56)
moved rest low byte = omega arith

-- after eight bytes nothing is left of the hash before, and each byte has the weight of its place
eight_bytes : (hash a b c d e f g h : ℕ) → hash < 2 ^ 64
    → number_hash hash (a ∷ b ∷ c ∷ d ∷ e ∷ f ∷ g ∷ h ∷ []) ≡ a + b * 2 ^ 8 + c * 2 ^ 16 + d * 2 ^ 24 + e * 2 ^ 32 + f * 2 ^ 40 + g * 2 ^ 48 + h * 2 ^ 56
eight_bytes hash a b c d e f g h small =
    let h1 = hash / 256 in
    let h2 = h1 / 256 in
    let h3 = h2 / 256 in
    let h4 = h3 / 256 in
    let h5 = h4 / 256 in
    let h6 = h5 / 256 in
    let h7 = h6 / 256 in
    let x1 : byte_hash hash a ≡ h1 + 256 * (a * 2 ^ 48) = omega arith in
    let x2 : byte_hash (byte_hash hash a) b ≡ h2 + 256 * (a * 2 ^ 40 + b * 2 ^ 48) = ap (λ x. byte_hash x b) x1 ∙ moved h1 (a * 2 ^ 48) b ∙ omega arith in
    let x3 : number_hash hash (a ∷ b ∷ c ∷ []) ≡ h3 + 256 * (a * 2 ^ 32 + b * 2 ^ 40 + c * 2 ^ 48) = ap (λ x. byte_hash x c) x2 ∙ moved h2 (a * 2 ^ 40 + b * 2 ^ 48) c ∙ omega arith in
    let x4 : number_hash hash (a ∷ b ∷ c ∷ d ∷ []) ≡ h4 + 256 * (a * 2 ^ 24 + b * 2 ^ 32 + c * 2 ^ 40 + d * 2 ^ 48) = ap (λ x. byte_hash x d) x3 ∙ moved h3 (a * 2 ^ 32 + b * 2 ^ 40 + c * 2 ^ 48) d ∙ omega arith in
    let x5 : number_hash hash (a ∷ b ∷ c ∷ d ∷ e ∷ []) ≡ h5 + 256 * (a * 2 ^ 16 + b * 2 ^ 24 + c * 2 ^ 32 + d * 2 ^ 40 + e * 2 ^ 48) = ap (λ x. byte_hash x e) x4 ∙ moved h4 (a * 2 ^ 24 + b * 2 ^ 32 + c * 2 ^ 40 + d * 2 ^ 48) e ∙ omega arith in
    let x6 : number_hash hash (a ∷ b ∷ c ∷ d ∷ e ∷ f ∷ []) ≡ h6 + 256 * (a * 2 ^ 8 + b * 2 ^ 16 + c * 2 ^ 24 + d * 2 ^ 32 + e * 2 ^ 40 + f * 2 ^ 48) = ap (λ x. byte_hash x f) x5 ∙ moved h5 (a * 2 ^ 16 + b * 2 ^ 24 + c * 2 ^ 32 + d * 2 ^ 40 + e * 2 ^ 48) f ∙ omega arith in
    let x7 : number_hash hash (a ∷ b ∷ c ∷ d ∷ e ∷ f ∷ g ∷ []) ≡ h7 + 256 * (a + b * 2 ^ 8 + c * 2 ^ 16 + d * 2 ^ 24 + e * 2 ^ 32 + f * 2 ^ 40 + g * 2 ^ 48) = ap (λ x. byte_hash x g) x6 ∙ moved h6 (a * 2 ^ 8 + b * 2 ^ 16 + c * 2 ^ 24 + d * 2 ^ 32 + e * 2 ^ 40 + f * 2 ^ 48) g ∙ omega arith in
    ap (λ x. byte_hash x h) x7 ∙ moved h7 (a + b * 2 ^ 8 + c * 2 ^ 16 + d * 2 ^ 24 + e * 2 ^ 32 + f * 2 ^ 40 + g * 2 ^ 48) h ∙ omega arith

-- the eight bytes of a number, the least significant first, give its remainder, whatever the hash was before
pub number_hash-remainder : (hash number : ℕ) → hash < 2 ^ 64 → number_hash hash (le_bytes 8 number) ≡ number % 2 ^ 64
unfolding le_bytes
number_hash-remainder hash number small =
    eight_bytes hash (number % 256) (number / 2 ^ 8 % 256) (number / 2 ^ 16 % 256) (number / 2 ^ 24 % 256) (number / 2 ^ 32 % 256) (number / 2 ^ 40 % 256) (number / 2 ^ 48 % 256) (number / 2 ^ 56 % 256) small ∙ omega arith

-- so they give the number, if it has no more bytes
pub number_hash-le_bytes : (hash number : ℕ) → hash < 2 ^ 64 → number < 2 ^ 64 → number_hash hash (le_bytes 8 number) ≡ number
number_hash-le_bytes hash number small fits = number_hash-remainder hash number small ∙ omega (arith, fits)
