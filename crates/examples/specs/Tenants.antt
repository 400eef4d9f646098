-- The keys of one tenant.
use Rattle.std.specs.Prelude.{ℕ, Bool, nat_eq}

-- a key belongs to a tenant if its first part is the tenant's number
abbrev pub of_tenant : ℕ → ℕ × ℕ → ℕ → Bool
of_tenant tenant key value = nat_eq key.0 tenant
