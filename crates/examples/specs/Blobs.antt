-- The weight of a byte string.
use Rattle.std.specs.Prelude.{ℕ, min, length, Vec}
use Rattle.std.specs.declared.alloc.Global.{Global}

-- the number of its bytes, at most the greatest weight
abbrev pub bytes_in : ℕ → Vec ℕ Global → ℕ
bytes_in number blob = min (length blob.items) 4_294_967_295
