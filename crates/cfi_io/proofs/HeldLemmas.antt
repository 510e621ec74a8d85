-- A shelf in memory after a pair was added.
use Rattle.std.proofs.Common.{◌≡◌, false, cond, List, [], ◌∷◌, ◌++◌, String, Vec, ℕ, Some, refl, sym, reverse, find, string_bytes, bytes_eq}
use Rattle.std.specs.Option.{option_map}
use Rattle.std.specs.declared.alloc.Global.{Global}
use Rattle.std.proofs.lemmas.List.{reverse-append}
use Rattle.std.proofs.lemmas.Bool.{false_from_ne_true}
use Rattle.std.proofs.lemmas.Slice.Eq.{bytes_eq-Decides}
use Rattle.cfi_io.specs.Files.{Puts}
use Rattle.cfi_io.specs.Held.{files_of}

abbrev Pair : Type 0
Pair = String Global × Vec ℕ Global

-- the bytes at a name: those of the pair that was added last, where it has the name
read_last : (pairs : List Pair) (pair : Pair) (name : List ℕ) → files_of (pairs ++ pair ∷ []) name
    ≡ option_map (λ (p : Pair). p.1.items) (cond (bytes_eq (string_bytes pair.0) name) (Some pair)
    (find (λ (p : Pair). bytes_eq (string_bytes p.0) name) (reverse pairs)))
read_last pairs pair name = rw (reverse-append pairs (pair ∷ [])) refl

files_of-push : (pairs : List Pair) (pair : Pair)
    → Puts (string_bytes pair.0) pair.1.items (files_of pairs) (files_of (pairs ++ pair ∷ []))
files_of-push pairs pair = record {
  here = let own = (bytes_eq-Decides (string_bytes pair.0) (string_bytes pair.0)).1 refl in
      rw (read_last pairs pair (string_bytes pair.0), own) refl;
  elsewhere = λ other differs.
      let not_own : bytes_eq (string_bytes pair.0) other ≡ false =
      false_from_ne_true _ (λ same. differs (sym ((bytes_eq-Decides (string_bytes pair.0) other).0 same))) in
      rw (read_last pairs pair other, not_own) refl;
}

-- the same of a shelf whose pairs are known by an equation
pub files_of-put : (pairs later : List Pair) (pair : Pair) (name bytes : List ℕ) → later ≡ pairs ++ pair ∷ []
    → string_bytes pair.0 ≡ name → pair.1.items ≡ bytes → Puts name bytes (files_of pairs) (files_of later)
files_of-put pairs later pair name bytes added named held = rw (added, ← named, ← held) (files_of-push pairs pair)
