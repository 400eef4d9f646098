-- What a cache of byte strings keeps for its caller beside the cache: the key and the value of the notice that was taken last, or
-- the value that a lookup had no room for.
use Rattle.std.specs.Prelude.{◌≡◌}
use Rattle.moka_c.specs.declared.byte_strings.ByteStrings.{ByteStrings}

-- A call keeps both.
abbrev pub KeepsFound : ByteStrings → ByteStrings → Type 0
KeepsFound old new = (new.key ≡ old.key) × (new.value ≡ old.value)
