-- The order of relocations: what is written of them, and what holds of them, does not depend on it.
use Rattle.std.proofs.Common.{◌≡◌, ℕ, not, Bool, true, false, List, [], ◌∷◌, ◌++◌, length, take, filter, flat_map, All, refl, sym, ap, ◌∙◌, inl, inr, length-append, append-nil}
use Rattle.std.proofs.Math.Path.{fun_ext}
use Rattle.std.proofs.lemmas.Bool.{cases_Bool}
use Rattle.std.proofs.lemmas.List.Filters.{length-filter_both}
use Rattle.std.proofs.lemmas.List.Elements.{filter-append, filter_agree, All-append, All-filter}
use Rattle.elf_read.specs.Places.{joined}
use Rattle.elf_read.specs.declared.object.Area.{Area}
use Rattle.elf_read.specs.declared.object.Area.TheVariants as areas
use Rattle.elf_read.specs.declared.object.Object.{Object}
use Rattle.elf_read.specs.declared.object.Reloc.{Reloc}
use Rattle.elf_write.specs.Contents.{is_text_area, is_data_area, is_in, rela_entry, relas_of}
use Rattle.elf_write.specs.declared.part.Part.{Part}
use Rattle.elf_write.specs.declared.part.Part.TheVariants.{Null, Text, Data, Types, Records, TextRelas, DataRelas, Symbols, SymbolNames, SectionNames}
use Rattle.elf_write.specs.File.{sections_of, contents_of, padded, body_of, link_of, info_of_part, section_place, part_header, header_of, bytes_of}
use Rattle.cfi_link.specs.Applied.{is_in_text, is_in as is_linked_in, by_area}
use Rattle.cfi_made_law.specs.Order.{object_of_file}

-- ---- filters

filter-twice : {X : Type 0} (p : X → Bool) (xs : List X) → filter p (filter p xs) ≡ filter p xs
filter-twice p [] = refl
filter-twice p (x ∷ xs) = elim (cases_Bool (p x)) [
  | inl keeps ↦ rw (keeps, keeps) (ap (λ ys. x ∷ ys) (filter-twice p xs))
  | inr drops ↦ rw drops (filter-twice p xs)
]

filter-none : {X : Type 0} (p q : X → Bool) (other : (x : X) → q x ≡ true → p x ≡ false) (xs : List X)
    → filter p (filter q xs) ≡ []
filter-none p q other [] = refl
filter-none p q other (x ∷ xs) = elim (cases_Bool (q x)) [
  | inl keeps ↦ rw (keeps, other x keeps) (filter-none p q other xs)
  | inr drops ↦ rw drops (filter-none p q other xs)
]

data-other : (a : Area) → is_data_area a ≡ true → is_text_area a ≡ false
data-other areas.Text is = cc
data-other areas.Data is = refl

text-other : (a : Area) → is_text_area a ≡ true → is_data_area a ≡ false
text-other areas.Text is = refl
text-other areas.Data is = cc

data-is : (a : Area) → is_data_area a ≡ not (is_text_area a)
data-is areas.Text = refl
data-is areas.Data = refl

-- the order, by the tests of a written file
text-same : (a : Area) → is_in_text a ≡ is_text_area a
text-same areas.Text = refl
text-same areas.Data = refl

data-same : (a : Area) → not (is_in_text a) ≡ is_data_area a
data-same areas.Text = refl
data-same areas.Data = refl

parted : (relocs : List Reloc) → by_area relocs ≡ filter (is_in areas.Text) relocs ++ filter (is_in areas.Data) relocs
parted relocs =
    ap (λ xs. xs ++ filter (is_linked_in areas.Data) relocs)
    (filter_agree (is_linked_in areas.Text) (is_in areas.Text) (λ r. text-same r.area) relocs)
    ∙ ap (λ ys. filter (is_in areas.Text) relocs ++ ys)
    (filter_agree (is_linked_in areas.Data) (is_in areas.Data) (λ r. data-same r.area) relocs)

pub text-by_area : (relocs : List Reloc) → filter (is_in areas.Text) (by_area relocs) ≡ filter (is_in areas.Text) relocs
text-by_area relocs =
    let text = is_in areas.Text in
    let others = is_in areas.Data in
    ap (filter text) (parted relocs) ∙ filter-append text (filter text relocs) (filter others relocs)
    ∙ ap (λ ys. filter text (filter text relocs) ++ ys)
    (filter-none text others (λ r is. data-other r.area is) relocs)
    ∙ append-nil (filter text (filter text relocs)) ∙ filter-twice text relocs

pub data-by_area : (relocs : List Reloc) → filter (is_in areas.Data) (by_area relocs) ≡ filter (is_in areas.Data) relocs
data-by_area relocs =
    let text = is_in areas.Text in
    let others = is_in areas.Data in
    ap (filter others) (parted relocs) ∙ filter-append others (filter text relocs) (filter others relocs)
    ∙ ap (λ ys. ys ++ filter others (filter others relocs))
    (filter-none others text (λ r is. text-other r.area is) relocs)
    ∙ filter-twice others relocs

pub in-order : (relocs : List Reloc)
    → by_area relocs ≡ filter (is_in areas.Text) (by_area relocs) ++ filter (is_in areas.Data) (by_area relocs)
in-order relocs =
    parted relocs
    ∙ ap (λ xs. xs ++ filter (is_in areas.Data) relocs) (sym (text-by_area relocs))
    ∙ ap (λ ys. filter (is_in areas.Text) (by_area relocs) ++ ys) (sym (data-by_area relocs))

pub by_area-twice : (relocs : List Reloc) → by_area relocs ≡ by_area (by_area relocs)
by_area-twice relocs = in-order relocs ∙ sym (parted (by_area relocs))

pub length-by_area : (relocs : List Reloc) → length (by_area relocs) ≡ length relocs
length-by_area relocs =
    ap (λ (xs : List Reloc). length xs) (parted relocs)
    ∙ length-append (filter (is_in areas.Text) relocs) (filter (is_in areas.Data) relocs)
    ∙ length-filter_both (is_in areas.Text) (is_in areas.Data) (λ r. data-is r.area) relocs

pub all-by_area : (P : Reloc → Type 0) (relocs : List Reloc) → All P relocs → All P (by_area relocs)
all-by_area P relocs all =
    All-append P (filter (is_linked_in areas.Text) relocs) (filter (is_linked_in areas.Data) relocs)
    (All-filter (is_linked_in areas.Text) P relocs all) (All-filter (is_linked_in areas.Data) P relocs all)

-- ---- what is written

module _ (object : Object) where
  abbrev other : Object
  other = object_of_file object

  contents-same : (part : Part) → contents_of other part ≡ contents_of object part
  unfolding relas_of
  contents-same Null = refl
  contents-same Text = refl
  contents-same Data = refl
  contents-same Types = refl
  contents-same Records = refl
  contents-same TextRelas = ap (λ rs. flat_map rela_entry rs) (text-by_area object.relocs)
  contents-same DataRelas = ap (λ rs. flat_map rela_entry rs) (data-by_area object.relocs)
  contents-same Symbols = refl
  contents-same SymbolNames = refl
  contents-same SectionNames = refl

  link-same : (part : Part) → link_of other part ≡ link_of object part
  link-same TextRelas = refl
  link-same DataRelas = refl
  link-same Symbols = refl
  link-same part = refl

  info-same : (part : Part) → info_of_part other part ≡ info_of_part object part
  info-same TextRelas = refl
  info-same DataRelas = refl
  info-same Symbols = refl
  info-same part = refl

  body-same : (parts : List Part) → body_of other parts ≡ body_of object parts
  body-same parts =
      ap (λ (f : Part → List ℕ). flat_map (λ part. padded (f part)) parts) (fun_ext contents-same)

  place-same : (k : ℕ) → section_place other k ≡ section_place object k
  unfolding section_place
  place-same k = rw (body-same (take k (sections_of object))) refl

  part-same : (part : Part) (name place : ℕ) → part_header other part name place ≡ part_header object part name place
  unfolding part_header
  part-same part name place = rw (contents-same part, link-same part, info-same part) refl

  header-same : (k : ℕ) → header_of other k ≡ header_of object k
  header-same k = part-same _ _ _ ∙ rw (place-same k) refl

  joined-same : (count : ℕ) → joined (header_of other) count ≡ joined (header_of object) count
  joined-same count = ap (λ (f : ℕ → List ℕ). joined f count) (fun_ext header-same)

  pub bytes-same : bytes_of other ≡ bytes_of object
  unfolding bytes_of
  bytes-same =
      rw (body-same (sections_of object), joined-same (length (sections_of object))) refl
