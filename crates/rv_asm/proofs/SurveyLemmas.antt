-- How many lines a survey has.
use Rattle.std.proofs.Common.{◌≡◌, ℕ, suc, ◌+◌, ◌≤◌, ◌==◌, Bool, true, false, List, [], ◌∷◌, length, if◌then◌else◌, refl, arith}
use Rattle.std.specs.List.{enumerate_from}
use Rattle.cfi_text.specs.Lines.{onto_first, lines_of, numbered_lines}
use Rattle.rv_line.specs.Line.{line_in}
use Rattle.rv_asm.specs.inner.Survey.{Survey, nothing, with_line, with_lines}

line_step : (b : Bool) (byte : ℕ) (lines : List (List ℕ)) (n : ℕ) → length lines ≤ n →
    length (if b then [] ∷ lines else onto_first byte lines) ≤ suc n
line_step true byte lines n h = omega arith
line_step false byte [] n h = omega arith
line_step false byte (line ∷ lines) n h = omega arith

-- a text has at most as many lines as bytes
pub length-lines_of : (text : List ℕ) → length (lines_of text) ≤ length text
length-lines_of [] = omega arith
length-lines_of (byte ∷ rest) = line_step (byte == 10) byte (lines_of rest) (length rest) (length-lines_of rest)

-- the lines count up to the last one
lines-from : (survey : Survey) (count : ℕ) (texts : List (List ℕ)) → survey.lines ≡ count →
    (with_lines survey (enumerate_from (count + 1) texts)).lines ≡ count + length texts
lines-from survey count [] same = omega (arith, same)
lines-from survey count (text ∷ texts) same =
    let more = lines-from (with_line survey (count + 1) (line_in text)) (count + 1) texts refl in
    omega (arith, more)

pub lines-le : (text : List ℕ) → (with_lines nothing (numbered_lines text)).lines ≤ length text
lines-le text = omega (arith, lines-from nothing 0 (lines_of text) refl, length-lines_of text)
