-- The joined text and data of a written file, and where its sections begin.
use Rattle.std.proofs.Common.{◌≡◌, ◌≢◌, ◌==◌, ◌+◌, ◌-◌, ◌<◌, ◌≤◌, ◌++◌, ℕ, zero, suc, true, false, cond, List, [], length, replicate, refl, sym, ap, ◌∙◌, arith, ⊎_elim, min, max}
use Rattle.std.proofs.lemmas.Bool.{cases_Bool, ne_eqb}
use Rattle.elf_read.specs.Header.{section_count}
use Rattle.elf_read.specs.Section.{section_at, contents, is_text, is_data}
use Rattle.elf_read.specs.Join.{text_of, text_size, joined_text, text_end, alignment_of, aligned, data_end, data_start, data_contents, data_of, joined_data, start_of}
use Rattle.elf_read.specs.declared.section.Section.{Section}
use Rattle.elf_read.specs.declared.object.Object.{Object}
use Rattle.elf_write.specs.File.{sections_of}
use Rattle.elf_write.proofs.SectionLemmas.{AreSections, written_section}
use Rattle.elf_write.proofs.KindLemmas.{count_is, enough, text_at, data_at}
use Rattle.elf_write.proofs.ListLemmas.{joined-only, total-length}

module _ (object : Object) (bytes : List ℕ) (are : AreSections object bytes) where
  many : 8 ≤ section_count bytes
  many = omega (arith, enough object bytes are, count_is object bytes are)

  there : (k : ℕ) → k < section_count bytes → k < length (sections_of object)
  there k within = omega (arith, within, count_is object bytes are)

  no_text : (k : ℕ) → k < section_count bytes → k ≢ 1 → is_text bytes k ≡ false
  no_text k within other = text_at object bytes are k (there k within) ∙ ne_eqb k 1 other

  no_data : (k : ℕ) → k < section_count bytes → k ≢ 2 → is_data bytes k ≡ false
  no_data k within other = data_at object bytes are k (there k within) ∙ ne_eqb k 2 other

  one_text : is_text bytes 1 ≡ true
  one_text = text_at object bytes are 1 (there 1 (omega (arith, many)))

  two_data : is_data bytes 2 ≡ true
  two_data = data_at object bytes are 2 (there 2 (omega (arith, many)))

  -- the text
  pub text_is : joined_text bytes ≡ object.text
  unfolding text_of
  text_is =
      let one : 1 < section_count bytes = omega (arith, many) in
      joined-only (text_of bytes) (section_count bytes) 1 one (λ k within other. ap
      (λ b. cond b (contents bytes k) []) (no_text k within other))
      ∙ ap (λ b. cond b (contents bytes 1) []) one_text ∙ are.held 1 (there 1 one)

  size_is : (k : ℕ) → k < section_count bytes → (section_at bytes k).size ≡ length (contents bytes k)
  unfolding written_section
  size_is k within = ap (λ (s : Section). s.size) (are.each k (there k within))
      ∙ ap length (sym (are.held k (there k within)))

  pub text_end_is : text_end bytes (section_count bytes) ≡ length object.text
  unfolding text_of text_size
  text_end_is =
      total-length (text_size bytes) (text_of bytes) (section_count bytes) (λ k within. ⊎_elim
      (λ (is : is_text bytes k ≡ true). rw is (size_is k within))
      (λ (not_one : is_text bytes k ≡ false). rw not_one refl)
      (cases_Bool (is_text bytes k)))
      ∙ ap length text_is

  -- the data
  data_end_two : data_end bytes 2 ≡ 0
  data_end_two =
      let first = no_data 0 (omega (arith, many)) (λ same. absurd (omega arith)) in
      let second = no_data 1 (omega (arith, many)) (λ same. absurd (omega arith)) in
      rw (second, first) refl

  alignment_two : alignment_of bytes 2 ≡ 16
  unfolding alignment_of written_section
  alignment_two = ap (λ (s : Section). min (max s.alignment 1) 16) (are.each 2 (there 2 (omega (arith, many))))

  data_start_two : data_start bytes 2 ≡ 0
  unfolding aligned
  data_start_two = ap (λ n. aligned n (alignment_of bytes 2)) data_end_two ∙ ap (λ n. aligned 0 n) alignment_two

  held_two : data_contents bytes 2 ≡ object.static_data
  unfolding data_contents written_section
  held_two =
      let within = there 2 (omega (arith, many)) in
      let stored : ((section_at bytes 2).kind == 8) ≡ false = ap (λ (s : Section). s.kind == 8) (are.each 2 within) in
      ap (λ b. cond b (replicate (section_at bytes 2).size 0) (contents bytes 2)) stored ∙ are.held 2 within

  pub data_is : joined_data bytes ≡ object.static_data
  unfolding data_of
  data_is =
      let gap : data_start bytes 2 - data_end bytes 2 ≡ 0 = omega (arith, data_start_two) in
      joined-only (data_of bytes) (section_count bytes) 2 (omega (arith, many))
      (λ k within other. ap (λ b. cond b (replicate (data_start bytes k - data_end bytes k) 0
      ++ data_contents bytes k) []) (no_data k within other))
      ∙ ap (λ b. cond b (replicate (data_start bytes 2 - data_end bytes 2) 0 ++ data_contents bytes 2) []) two_data
      ∙ ap (λ n. replicate n 0 ++ data_contents bytes 2) gap ∙ held_two

  data_end_past : (more : ℕ) → 3 + more ≤ section_count bytes → data_end bytes (3 + more) ≡ data_end bytes 3
  data_end_past zero within = refl
  data_end_past (suc more) within =
      let next : 3 + suc more ≡ suc (3 + more) = omega arith in
      let none = no_data (3 + more) (omega arith) (λ same. absurd (omega arith)) in
      let last : data_end bytes (suc (3 + more)) ≡ data_end bytes (3 + more) = rw none refl in
      ap (λ n. data_end bytes n) next ∙ last ∙ data_end_past more (omega arith)

  pub data_end_is : data_end bytes (section_count bytes) ≡ length object.static_data
  unfolding written_section
  data_end_is =
      let all : 3 + (section_count bytes - 3) ≡ section_count bytes = omega (arith, many) in
      let size : (section_at bytes 2).size ≡ length object.static_data =
      ap (λ (s : Section). s.size) (are.each 2 (there 2 (omega (arith, many)))) in
      let third : data_end bytes 3 ≡ data_start bytes 2 + (section_at bytes 2).size = rw two_data refl in
      let past = data_end_past (section_count bytes - 3) (omega (arith, all)) in
      let whole : data_end bytes (section_count bytes) ≡ data_end bytes 3 = rw all at past in
      omega (arith, whole, third, size, data_start_two)

  -- both begin at the start of what is joined
  pub text_starts : start_of bytes 1 ≡ 0
  unfolding start_of text_size
  text_starts =
      let first = no_text 0 (omega (arith, many)) (λ same. absurd (omega arith)) in
      rw (one_text, first) refl

  pub data_starts : start_of bytes 2 ≡ 0
  unfolding start_of
  data_starts =
      let second = no_text 2 (omega (arith, many)) (λ same. absurd (omega arith)) in
      rw second data_start_two
