-- The lines of a listing say the statements of its words, one after the other.
use Rattle.std.proofs.Common.{◌≡◌, ℕ, zero, suc, ◌+◌, ◌-◌, ◌*◌, ◌^◌, ◌<◌, ◌≤◌, Option, Some, None, List, [], ◌∷◌, ◌++◌, length, drop, map, refl, sym, ap, ◌∙◌, append_assoc, arith}
use Rattle.std.specs.Prelude.{slice_index, codes, All}
use Rattle.std.specs.List.{list_all}
use Rattle.std.proofs.lemmas.Bool.{cond-false, and_parts, not-true}
use Rattle.std.proofs.lemmas.List.{drop_more, drop_all}
use Rattle.cfi_text.specs.Lines.{onto_first, lines_of}
use Rattle.cfi_text.specs.Hex.{hex8_text}
use Rattle.cfi_unit.specs.declared.unit.Unit.{Unit as CodeUnit}
use Rattle.cfi_unit.specs.declared.unit.Unit.TheVariants as units
use Rattle.rv_text.specs.Text.{word_text}
use Rattle.rv_text.specs.Listing.{mark_of, piece_mark, piece_size, ReadAs, line_of, plain_lines, marked_lines, lines_from, IsListing}
use Rattle.rv_text.proofs.ListingLemmas.{IsPieceAt-within}
use Rattle.rv_line.specs.declared.line.Line.{Line}
use Rattle.rv_line.specs.Operand.{is_byte}
use Rattle.rv_line.specs.Line.{line_in}
use Rattle.rv_listing_law.specs.Back.{word_line, first_line}
use Rattle.rv_listing_law.proofs.ByteLemmas.{AllPass, AllPass-append, differs, line-all, plain-hex_digits}
use Rattle.rv_listing_law.proofs.SayLemmas.{line-word, line_in-word, line_in-first}

-- what the lines of a text say
abbrev said : List ℕ → List Line
said text = map line_in (lines_of text)

-- a line ends at the first line feed
lines_of-line : (a b : List ℕ) → AllPass (differs 10) a → lines_of (a ++ 10 ∷ b) ≡ a ∷ lines_of b
lines_of-line [] b h = refl
lines_of-line (x ∷ a) b h =
    let parts = and_parts _ _ h in
    cond-false (is_byte 10 x) _ _ (not-true (is_byte 10 x) parts.0) ∙ ap (onto_first x) (lines_of-line a b parts.1)

-- the line of a word
said-line : (word offset : ℕ) (mark rest : List ℕ) → word < 2 ^ 32 → AllPass (differs 10) mark →
    said (line_of word offset mark ++ rest) ≡ word_line word ∷ said rest
said-line word offset mark rest small clean =
    let text = word_text word in
    let number = hex8_text offset in
    let line = text ++ codes " # " ++ number ++ mark in
    let same : line ≡ text ++ (codes " # " ++ (number ++ mark)) =
    append_assoc (text ++ codes " # ") number mark ∙ append_assoc text (codes " # ") (number ++ mark) in
    let comment = AllPass-append (differs 10) number mark (line-all number (plain-hex_digits 8 offset)) clean in
    let ends : AllPass (differs 10) line =
    ap (list_all (differs 10)) same ∙ AllPass-append (differs 10) text (codes " # " ++ (number
    ++ mark)) (line-word word small) comment in
    ap said (append_assoc line (codes "\n") rest)
    ∙ ap (map line_in) (lines_of-line line rest ends)
    ∙ ap (λ l. l ∷ said rest) (ap line_in same ∙ line_in-word word (32 ∷ (number ++ mark)) small)

-- no mark ends a line
clean_mark : (unit : CodeUnit) → AllPass (differs 10) (mark_of unit)
clean_mark (units.Load kind rd rs1 imm) = refl
clean_mark (units.Store kind rs1 rs2 imm) = refl
clean_mark (units.Check link rs1 imm slot) = refl
clean_mark unit = refl

clean_piece : (piece : Option CodeUnit) → AllPass (differs 10) (piece_mark piece)
clean_piece None = refl
clean_piece (Some unit) = clean_mark unit

module _ (words : List ℕ) (small : All (λ word. word < 2 ^ 32) words) where
  -- what the words from a place on say
  abbrev from : ℕ → List Line
  from at = map word_line (drop at words)

  -- a line and what follows it
  said-first : (at : ℕ) (mark rest : List ℕ) → at < length words → AllPass (differs 10) mark →
      said rest ≡ from (at + 1) → said (line_of (slice_index words at) (4 * at) mark ++ rest) ≡ from at
  said-first at mark rest within clean says =
      said-line (slice_index words at) (4 * at) mark rest (small at 0 within) clean
      ∙ ap (λ ls. word_line (slice_index words at) ∷ ls) says
      ∙ ap (map word_line) (sym (drop_more words at 0 within))

  said-plain : (count at : ℕ) (rest : List ℕ) → at + count ≤ length words → said rest ≡ from (at + count) →
      said (plain_lines words at count ++ rest) ≡ from at
  said-plain zero at rest within says = says ∙ ap from (omega arith)
  said-plain (suc count) at rest within says =
      let next : at + suc count ≡ at + 1 + count = omega arith in
      let others = said-plain count (at + 1) rest (omega (arith, within)) (says ∙ ap from next) in
      let line = line_of (slice_index words at) (4 * at) [] in
      ap said (append_assoc line (plain_lines words (at + 1) count) rest)
      ∙ said-first at [] (plain_lines words (at + 1) count ++ rest) (omega (arith, within)) refl others

  said-marked : (at size : ℕ) (mark rest : List ℕ) → at + size ≤ length words → 0 < size → AllPass (differs 10) mark →
      said rest ≡ from (at + size) → said (marked_lines words at mark size ++ rest) ≡ from at
  said-marked at size mark rest within some clean says =
      let next : at + size ≡ at + 1 + (size - 1) = omega (arith, some) in
      let others = said-plain (size - 1) (at + 1) rest (omega (arith, within, some)) (says ∙ ap from next) in
      let line = line_of (slice_index words at) (4 * at) mark in
      ap said (append_assoc line (plain_lines words (at + 1) (size - 1)) rest)
      ∙ said-first at mark (plain_lines words (at + 1) (size - 1) ++ rest) (omega (arith, within, some)) clean others

  said-pieces : (at : ℕ) (pieces : List (Option CodeUnit)) → ReadAs words at pieces →
      said (lines_from words at pieces) ≡ from at
  said-pieces at [] all = sym (ap (map word_line) (drop_all at words (omega (arith, all))))
  said-pieces at (piece ∷ pieces) are =
      let size = piece_size piece in
      let within = IsPieceAt-within words at (piece_mark piece) size (piece, are.0, refl, refl) in
      said-marked at size (piece_mark piece) (lines_from words (at + size) pieces) within.0 within.1 (clean_piece piece)
      (said-pieces (at + size) pieces are.1)

  pub said-listing : (text : List ℕ) → IsListing words text →
      map line_in (lines_of text) ≡ first_line ∷ map word_line words
  said-listing text is =
      ap said is.2 ∙ ap (λ l. l ∷ said (lines_from words 0 is.0)) line_in-first
      ∙ ap (λ ls. first_line ∷ ls) (said-pieces 0 is.0 is.1)
