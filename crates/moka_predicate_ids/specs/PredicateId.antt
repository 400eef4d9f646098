-- The form of an id, and the id that a generator gives.
use Rattle.std.specs.Prelude.{ℕ, ◌+◌, List, [], ◌∷◌, ◌++◌, replicate, codes, Contains}
use Rattle.std.specs.List.{AllZip}
use Rattle.rand_core.specs.Stream.{Call, u32_call, u64_call, bytes_call, Stream, fill_bytes}
use Rattle.uuid.specs.Parts.{v4_of_fill}
use Rattle.uuid.specs.Text.{hyphenated_text, lower}

abbrev pub digits : List ℕ  -- the lower-case hexadecimal digits
digits = codes "0123456789abcdef"

-- The characters allowed at each place of an id: groups of 8, 4, 4, 4 and 12 digits, with hyphens between them. The
-- third group begins with the version, and the fourth with the variant.
abbrev pub places : List (List ℕ)
places =
    replicate 8 digits ++ codes "-" ∷ replicate 4 digits ++ codes "-" ∷ codes "4" ∷ replicate 3 digits ++ codes "-" ∷ codes "89ab"
    ∷ replicate 3 digits ++ codes "-" ∷ replicate 12 digits

-- A text has the form of an id: it has as many characters as there are places, and each is allowed at its place.
abbrev pub IsIdText : List ℕ → Type 0
IsIdText text = AllZip Contains places text

-- The id of a generator: the text of the version 4 UUID of its next sixteen bytes.
abbrev pub id_by : Stream → List ℕ
id_by stream = hyphenated_text lower (v4_of_fill (fill_bytes 16 stream)).0

-- The generator after an id was drawn.
abbrev pub stream_after_id : Stream → Stream
stream_after_id stream = (v4_of_fill (fill_bytes 16 stream)).1

-- A generator that repeats one byte, for worked cases.
abbrev pub repeats : ℕ → Stream
repeats byte = record { u32_after = λ _. 0; u64_after = λ _. 0; bytes_after = λ _ count. replicate count byte }

-- How many bytes these calls drew.
abbrev pub bytes_in : List Call → ℕ
bytes_in [] = 0
bytes_in (u32_call ∷ calls) = bytes_in calls
bytes_in (u64_call ∷ calls) = bytes_in calls
bytes_in (bytes_call count ∷ calls) = count + bytes_in calls

-- A generator that returns how many bytes were drawn so far, for worked cases.
abbrev pub counts_bytes : Stream
counts_bytes = record {
  u32_after = λ calls. bytes_in calls;
  u64_after = λ calls. bytes_in calls;
  bytes_after = λ _ count. replicate count 0;
}
