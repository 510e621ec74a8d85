-- A line with a comment and without a label says what stands before the comment.
use Rattle.std.proofs.Common.{◌≡◌, ℕ, ◌+◌, ◌-◌, ◌==◌, None, List, [], ◌∷◌, ◌++◌, length, take, refl, sym, ap, ◌∙◌, append_assoc, append-nil, arith, inl, inr, length-append}
use Rattle.std.specs.Prelude.{slice_index}
use Rattle.std.specs.List.{before_first}
use Rattle.std.proofs.Math.Seq.{take-append-add, take-length}
use Rattle.std.proofs.lemmas.Bool.{cases_Bool}
use Rattle.cfi_text.specs.Lines.{statement_of}
use Rattle.rv_line.specs.Operand.{is_byte, cut}
use Rattle.rv_line.specs.Line.{line_of, parts_in, line_in}
use Rattle.rv_listing_law.proofs.ByteLemmas.{AllPass, AllPass-append, differs}
use Rattle.rv_listing_law.proofs.CutLemmas.{place-none, before_first-at, cut-none}

-- before the first `#` nothing depends on what is behind it
before_comment : (a b : List ℕ) → AllPass (differs 35) a →
    before_first (is_byte 35) (a ++ take (length b) (35 ∷ b)) ≡ a
before_comment a [] h = rw (append-nil a, place-none (is_byte 35) a h) (take-length a)
before_comment a (x ∷ b) h = before_first-at (is_byte 35) a 35 (take (length b) (x ∷ b)) h refl

-- a line's last byte is in the comment, or begins it
statement_of-comment : (a b : List ℕ) → AllPass (differs 35) a → statement_of (a ++ 35 ∷ b) ≡ a
statement_of-comment a b h =
    elim (cases_Bool (slice_index (a ++ 35 ∷ b) (length (a ++ 35 ∷ b) - 1) == 13)) [
      | inl is ↦
          let size : length (a ++ 35 ∷ b) - 1 ≡ length a + length b = omega (arith, length-append a (35 ∷ b)) in
          rw (is, size, take-append-add a (35 ∷ b) (length b)) (before_comment a b h)
      | inr other ↦ rw other (before_first-at (is_byte 35) a 35 b h refl)
    ]

-- the line
pub line_in-comment : (text comment : List ℕ) → AllPass (differs 35) text → AllPass (differs 58) text →
    line_in (text ++ 32 ∷ 35 ∷ comment) ≡ line_of None (text ++ 32 ∷ [])
line_in-comment text comment h k =
    let line = text ++ 32 ∷ [] in
    let says = statement_of-comment line comment (AllPass-append (differs 35) text (32 ∷ []) h refl) in
    let no_label = cut-none 58 line (AllPass-append (differs 58) text (32 ∷ []) k refl) in
    ap line_in (sym (append_assoc text (32 ∷ []) (35 ∷ comment))) ∙ ap (λ t. parts_in (cut 58 t) t) says
    ∙ ap (λ o. parts_in o line) no_label
