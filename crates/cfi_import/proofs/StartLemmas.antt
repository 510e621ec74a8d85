-- The last relocation in text, and one more.
use Rattle.std.proofs.Common.{◌≡◌, ◌∙◌, ℕ, ◌+◌, ◌<◌, ◌≤◌, ◌||◌, Bool, true, false, List, [], ◌∷◌, ◌++◌, length, take, get_or, refl, sym, ap, inl, inr, arith}
use Rattle.std.specs.List.{list_any}
use Rattle.std.proofs.lemmas.Bool.{cases_Bool}
use Rattle.std.proofs.lemmas.List.{take_more, length-take-le}
use Rattle.std.proofs.lemmas.List.Folds.{list_any-append}
use Rattle.elf_read.specs.declared.object.Reloc.{Reloc}
use Rattle.cfi_import.specs.Start.{is_in_text, end_after, text_end}

abbrev of_text : Reloc → Bool
of_text reloc = is_in_text reloc.area

or-true : (b : Bool) → (b || (true || false)) ≡ true
or-true true = refl
or-true false = refl

or-false : (b : Bool) → (b || (false || false)) ≡ b
or-false true = refl
or-false false = refl

text_end-push : (relocs : List Reloc) (r : Reloc)
    → text_end (relocs ++ r ∷ []) ≡ end_after (text_end relocs) (length relocs + 1) r.area
text_end-push [] r = elim (cases_Bool (of_text r)) [ inl here ↦ rw here refl | inr other ↦ rw other refl ]
text_end-push (x ∷ relocs) r =
    let rest = text_end-push relocs r in
    let any = list_any-append of_text (x ∷ relocs) (r ∷ []) in
    elim (cases_Bool (of_text r)) [
      | inl here ↦
          let there : list_any of_text (x ∷ (relocs ++ r ∷ [])) ≡ true =
          any ∙ rw here (or-true (list_any of_text (x ∷ relocs))) in
          let last : text_end (relocs ++ r ∷ []) ≡ length relocs + 1 = rest ∙ rw here refl in
          rw there (rw here (omega (arith, last)))
      | inr other ↦
          let same : list_any of_text (x ∷ (relocs ++ r ∷ [])) ≡ list_any of_text (x ∷ relocs) =
          any ∙ rw other (or-false (list_any of_text (x ∷ relocs))) in
          let last : text_end (relocs ++ r ∷ []) ≡ text_end relocs = rest ∙ rw other refl in
          rw other (rw same (rw last refl))
    ]

-- one relocation more
pub text_end-more : (relocs : List Reloc) (k : ℕ) (d : Reloc) → k < length relocs
    → text_end (take (k + 1) relocs) ≡ end_after (text_end (take k relocs)) (k + 1) (get_or relocs k d).area
text_end-more relocs k d lt =
    let r = get_or relocs k d in
    let size = length-take-le k relocs (omega (arith, lt)) in
    ap text_end (take_more relocs k d lt)
    ∙ text_end-push (take k relocs) r
    ∙ ap (λ (n : ℕ). end_after (text_end (take k relocs)) (n + 1) r.area) size

pub text_end-within : (relocs : List Reloc) → text_end relocs ≤ length relocs
text_end-within [] = omega arith
text_end-within (x ∷ relocs) =
    let rest = text_end-within relocs in
    elim (cases_Bool (list_any of_text (x ∷ relocs))) [
      | inl here ↦ rw here (omega (arith, rest))
      | inr other ↦ rw other (omega arith)
    ]
