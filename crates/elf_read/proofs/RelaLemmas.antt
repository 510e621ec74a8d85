-- How many relocations the sections of a file have.
use Rattle.std.proofs.Common.{◌≡◌, ◌+◌, ◌*◌, ◌/◌, ◌^◌, ◌<◌, ◌≤◌, ◌==◌, ◌&&◌, not, ℕ, zero, suc, List, true, false, nat_lt, length, drop, length-take, length-drop, ⊎_elim, refl, arith}
use Rattle.std.proofs.lemmas.Bool.{cases_Bool, and_parts, ltb-true, ltb-false, eqb-true}
use Rattle.std.proofs.Math.Nat.{mul-le-mul}
use Rattle.elf_read.specs.Header.{section_count}
use Rattle.elf_read.specs.Section.{section_at, contents, is_rela, is_kept, is_short, is_loaded}
use Rattle.elf_read.specs.Relocation.{rela_count, relas_before}
use Rattle.elf_read.specs.Fault.{HasSections}
use Rattle.elf_read.specs.declared.section.TheConstants.{RELA, NOBITS}
use Rattle.elf_read.proofs.SectionLemmas.{or_true, and_false}

-- a section with relocations has kept ones
pub rela_there : (bytes : List ℕ) (s : ℕ) → 0 < rela_count bytes s → is_rela bytes s ≡ true
unfolding rela_count
rela_there bytes s some = ⊎_elim
    (λ is. is)
    (λ none.
    let empty : rela_count bytes s ≡ 0 = rw none refl in
    absurd (omega arith))
    (cases_Bool (is_rela bytes s))

-- and changes a loaded section that is there
pub rela_target : (bytes : List ℕ) (s : ℕ) → is_rela bytes s ≡ true
    → ((section_at bytes s).info < section_count bytes) × (is_loaded bytes (section_at bytes s).info ≡ true)
unfolding is_rela
rela_target bytes s is =
    let parts = and_parts _ (is_loaded bytes (section_at bytes s).info) is in
    let kinds = and_parts _ (nat_lt (section_at bytes s).info (section_count bytes)) parts.0 in
    (ltb-true _ _ kinds.1, parts.1)

-- the contents of a kept section that the file has are in it
pub contents_within : (bytes : List ℕ) (k : ℕ) → HasSections bytes → k < section_count bytes
    → is_kept bytes k ≡ true → ((section_at bytes k).kind == NOBITS) ≡ false
    → (section_at bytes k).offset + (section_at bytes k).size ≤ length bytes
unfolding is_short
contents_within bytes k sections within kept stored =
    let section = section_at bytes k in
    let whole = sections.contents.whole k within in
    let here : (is_kept bytes k && not (section.kind == NOBITS)) ≡ true = rw (kept, stored) refl in
    let inside =
    and_false (is_kept bytes k && not (section.kind == NOBITS)) (nat_lt (length bytes)
    (section.offset + section.size)) here whole in
    ltb-false _ _ inside

pub length-contents : (bytes : List ℕ) (k : ℕ)
    → (section_at bytes k).offset + (section_at bytes k).size ≤ length bytes
    → length (contents bytes k) ≡ (section_at bytes k).size
unfolding contents
length-contents bytes k within =
    let section = section_at bytes k in
    let cut = length-take section.size (drop section.offset bytes) in
    let rest = length-drop section.offset bytes in
    omega (arith, cut, rest)

-- a section with kept relocations is kept, and is no NOBITS
rela_stored : (bytes : List ℕ) (s : ℕ) → is_rela bytes s ≡ true
    → (is_kept bytes s ≡ true) × (((section_at bytes s).kind == NOBITS) ≡ false)
unfolding is_rela is_kept
rela_stored bytes s is =
    let parts = and_parts _ (is_loaded bytes (section_at bytes s).info) is in
    let kinds = and_parts ((section_at bytes s).kind == RELA) _ parts.0 in
    let kind : (section_at bytes s).kind ≡ 4 = eqb-true _ _ kinds.0 in
    (or_true _ (is_rela bytes s) is, rw kind refl)

-- the entries of a section are in the file
pub relas_within : (bytes : List ℕ) (s : ℕ) → HasSections bytes → s < section_count bytes
    → 12 * rela_count bytes s ≤ length (contents bytes s)
unfolding rela_count
relas_within bytes s sections within = ⊎_elim
    (λ there.
    let stored = rela_stored bytes s there in
    let inside = contents_within bytes s sections within stored.0 stored.1 in
    let size = length-contents bytes s inside in
    let count : rela_count bytes s ≡ (section_at bytes s).size / 12 = rw there refl in
    omega (arith, size, count))
    (λ none.
    let empty : rela_count bytes s ≡ 0 = rw none refl in
    omega arith)
    (cases_Bool (is_rela bytes s))

-- no section has more entries than fit the file
pub rela_count-le : (bytes : List ℕ) (s : ℕ) → HasSections bytes → s < section_count bytes
    → rela_count bytes s ≤ length bytes / 12
unfolding rela_count
rela_count-le bytes s sections within = ⊎_elim
    (λ there.
    let stored = rela_stored bytes s there in
    let inside = contents_within bytes s sections within stored.0 stored.1 in
    let count : rela_count bytes s ≡ (section_at bytes s).size / 12 = rw there refl in
    omega (arith, inside, count))
    (λ none.
    let empty : rela_count bytes s ≡ 0 = rw none refl in
    omega arith)
    (cases_Bool (is_rela bytes s))

-- nor have all of them
relas_before-le : (bytes : List ℕ) (s : ℕ) → HasSections bytes → s ≤ section_count bytes
    → relas_before bytes s ≤ s * (length bytes / 12)
relas_before-le bytes zero sections within = omega arith
relas_before-le bytes (suc s) sections within =
    let before = relas_before-le bytes s sections (omega arith) in
    let here = rela_count-le bytes s sections (omega arith) in
    omega arith

-- so their numbers are below 2 ^ 32
pub relas-small : (bytes : List ℕ) (s : ℕ) → HasSections bytes → s < section_count bytes → length bytes ≤ 50331647
    → relas_before bytes s + rela_count bytes s < 2 ^ 32
relas-small bytes s sections within small =
    let all = relas_before-le bytes (suc s) sections (omega arith) in
    let each : length bytes / 12 ≤ 4194303 = omega arith in
    let few : suc s ≤ 1024 = omega (arith, sections.contents.names.shape.table.few) in
    let product = mul-le-mul few each in
    omega (arith, all, product)
