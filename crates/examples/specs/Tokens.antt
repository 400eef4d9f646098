-- How long tokens live.
use Rattle.std.specs.Prelude.{ℕ, ◌*◌, Some}
use Rattle.moka.specs.Lives.{Lifetimes}

-- a token lives as many seconds as its value says at creation; neither an access nor an overwrite changes its end
abbrev pub lives_of_tokens : Lifetimes ℕ ℕ
lives_of_tokens = record {
  created = λ key seconds at. Some (seconds * 1_000_000_000);
  read = λ key seconds at rest written. rest;
  updated = λ key seconds at rest. rest;
}
