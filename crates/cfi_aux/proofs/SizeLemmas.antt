-- How many bytes a branch has.
use Rattle.std.proofs.Common.{◌≡◌, ℕ, ◌+◌, ◌*◌, List, [], ◌∷◌, ◌++◌, length, replicate, refl, arith, length-append}
use Rattle.std.specs.List.{flat_map}
use Rattle.std.proofs.lemmas.List.{length-replicate}
use Rattle.cfi_type_table.specs.Spelling.{word}
use Rattle.cfi_aux.specs.declared.records.Kind.{Kind}
use Rattle.cfi_aux.specs.declared.records.Kind.TheVariants.{Call, Tail, Return, Switch, Import}
use Rattle.cfi_aux.specs.Format.{import_words}
use Rattle.cfi_aux.specs.Records.{padding, name_bytes, kind_number, body_bytes, word_count, branch_bytes}

places-size : (places : List ℕ) → length (flat_map word places) ≡ 4 * length places
places-size [] = refl
places-size (place ∷ places) =
    let one : length (word place) ≡ 4 = refl in
    omega (arith, length-append (word place) (flat_map word places), one, places-size places)

name-size : (name : List ℕ) → length (name_bytes name) + 4 ≡ 4 * import_words (length name)
name-size name =
    let zeroes : List ℕ = replicate (padding (length name)) 0 in
    let one : length (word (length name)) ≡ 4 = refl in
    omega (
      arith,
      length-append (word (length name)) (name ++ zeroes),
      length-append name zeroes,
      length-replicate {A = ℕ} (padding (length name)) 0,
      one,
    )

-- what stands behind its kind and its number of words
body-size : (b : Kind) → length (body_bytes b) ≡ 4 * word_count b
body-size (Call node) = refl
body-size (Tail node) = refl
body-size Return = refl
body-size (Switch places) = places-size places
body-size (Import name cell) =
    let one : length (word cell) ≡ 4 = refl in
    omega (arith, length-append (word cell) (name_bytes name), one, name-size name)

pub branch-size : (b : Kind) → length (branch_bytes b) ≡ 8 + 4 * word_count b
branch-size b =
    let one : length (word (kind_number b)) ≡ 4 = refl in
    let two : length (word (word_count b)) ≡ 4 = refl in
    omega (
      arith,
      length-append (word (kind_number b)) (word (word_count b) ++ body_bytes b),
      length-append (word (word_count b)) (body_bytes b),
      one,
      two,
      body-size b,
    )
