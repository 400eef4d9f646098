use Rattle.std.proofs.Common.{◌≡◌, ℕ, ◌∷◌, [], List, Bool, true, false, cond, Option, Some, refl, sym, subst}
use Rattle.std.specs.List.{AllByRecursion}
use Rattle.std.specs.Str.{bytes_eq}
use Rattle.std.proofs.lemmas.Slice.Eq.{bytes_eq-Decides}
use Rattle.mokabox_syntax.specs.Fields.{read_by}
use Rattle.mokabox_syntax.proofs.FieldTexts.{IsField}

-- what the reader behind a word reads is written so
abbrev pub TakesAs : {A : Type 0} → (List (List ℕ) → A → Type 0) → List ℕ → (List (List ℕ) → Option A) → Type 0
TakesAs {A} IsWritten word reader = (rest : List (List ℕ)) (what : A) → AllByRecursion IsField rest → reader rest ≡ Some what → IsWritten (word ∷ rest) what

pub read_by_takes : {A : Type 0} (IsWritten : List (List ℕ) → A → Type 0) (entries : List (List ℕ × (List (List ℕ) → Option A))) (word : List ℕ) → AllByRecursion (λ entry. TakesAs IsWritten entry.0 entry.1) entries → TakesAs IsWritten word (read_by entries word)
read_by_takes IsWritten [] word take rest what each h = cc
read_by_takes {A} IsWritten (entry ∷ entries) word take rest what each h = either (bytes_eq word entry.0) refl h (read_by_takes IsWritten entries word take.1 rest what each) where
  either : (test : Bool) → bytes_eq word entry.0 ≡ test → cond test (entry.1 rest) (read_by entries word rest) ≡ Some what → (read_by entries word rest ≡ Some what → IsWritten (word ∷ rest) what) → IsWritten (word ∷ rest) what
  either true e given later =
      let same : word ≡ entry.0 = (bytes_eq-Decides word entry.0).0 e in
      subst (λ w. IsWritten (w ∷ rest) what) (sym same) (take.0 rest what each given)
  either false e given later = later given
