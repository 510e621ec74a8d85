-- Tables by words, and searches among numbers.
use Rattle.std.proofs.Common.{◌≡◌, ℕ, suc, ◌+◌, ◌-◌, ◌<◌, Bool, false, cond, List, [], ◌∷◌, ◌++◌, take, length, get_or, find, Option, Some, None, refl, sym, ap, ◌∙◌, arith}
use Rattle.std.specs.Option.{option_or}
use Rattle.std.specs.List.{list_any, range_with_len}
use Rattle.std.proofs.lemmas.List.{take_more}
use Rattle.std.proofs.lemmas.List.Folds.{find-append}
use Rattle.elf_read.specs.declared.object.Reloc.{Reloc}
use Rattle.cfi_instr.specs.Words.{sits_on, first_on}
use Rattle.cfi_instr.specs.inner.Words.{noted}

-- the first number of a range does not pass
pub any-next : (test : ℕ → Bool) (w end : ℕ) → w < end → test w ≡ false
    → list_any test (range_with_len w (end - w)) ≡ list_any test (range_with_len (w + 1) (end - (w + 1)))
any-next test w end lt here =
    let count : end - w ≡ suc (end - (w + 1)) = omega arith in
    rw (count, here) refl

noted-or : (here : Bool) (reloc : Reloc) (found : Option Reloc)
    → noted here reloc found ≡ option_or found (cond here (Some reloc) None)
noted-or here reloc None = refl
noted-or here reloc (Some first) = refl

-- one relocation more
pub first_on-more : (calling : Bool) (relocs : List Reloc) (i : ℕ) (d : Reloc) (w : ℕ) → i < length relocs
    → noted (sits_on calling w (get_or relocs i d)) (get_or relocs i d) (first_on calling (take i relocs) w)
    ≡ first_on calling (take (i + 1) relocs) w
first_on-more calling relocs i d w lt =
    let more : take (i + 1) relocs ≡ take i relocs ++ get_or relocs i d ∷ [] = take_more relocs i d lt in
    let found : find (sits_on calling w) (take i relocs ++ get_or relocs i d ∷ [])
    ≡ option_or (find (sits_on calling w) (take i relocs)) (find (sits_on calling w) (get_or relocs i d ∷ [])) =
    find-append (sits_on calling w) (take i relocs) (get_or relocs i d ∷ []) in
    noted-or (sits_on calling w (get_or relocs i d)) (get_or relocs i d) (first_on calling (take i relocs) w)
    ∙ sym found ∙ ap (find (sits_on calling w)) (sym more)
