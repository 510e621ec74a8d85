-- The first line of a text.
use Rattle.std.proofs.Common.{◌≡◌, ℕ, suc, ◌+◌, ◌-◌, ◌<◌, ◌==◌, Bool, true, false, List, [], ◌∷◌, length, take, drop, take_all, refl, arith, length-drop}
use Rattle.std.proofs.lemmas.List.{drop_all}
use Rattle.std.specs.List.{position_or_len, before_first, after_first}
use Rattle.cfi_text.specs.Lines.{lines_of}

abbrev is_end : ℕ → Bool
is_end byte = byte == 10

-- a text begins with its first line
abbrev Splits : List ℕ → Type 0
Splits text = lines_of text ≡ before_first is_end text ∷ lines_of (after_first is_end text)

-- an end is the first byte
splits_at_end : (byte : ℕ) (rest : List ℕ) → is_end byte ≡ true → Splits (byte ∷ rest)
splits_at_end byte rest ends = rw ends refl

-- the first byte belongs to the last line
splits_last : (byte : ℕ) → is_end byte ≡ false → Splits (byte ∷ [])
splits_last byte goes_on = rw goes_on refl

-- the first byte stands ahead of a line
splits_ahead : (byte : ℕ) (rest : List ℕ) → is_end byte ≡ false → Splits rest → Splits (byte ∷ rest)
splits_ahead byte rest goes_on splits =
    let place = position_or_len is_end rest in
    let one : 1 + place ≡ suc place = omega arith in
    let two : suc place + 1 ≡ suc (place + 1) = omega arith in
    rw (goes_on, splits, one, two) refl

pub lines_of-first : (text : List ℕ) → 0 < length text → Splits text
lines_of-first [] some = absurd (omega (arith, some))
lines_of-first (byte ∷ []) some = by_first (is_end byte) refl
  where
    by_first : (b : Bool) → is_end byte ≡ b → Splits (byte ∷ [])
    by_first true is = splits_at_end byte [] is
    by_first false is = splits_last byte is
lines_of-first (byte ∷ next ∷ rest) some = by_first (is_end byte) refl (lines_of-first (next ∷ rest) (omega arith))
  where
    by_first : (b : Bool) → is_end byte ≡ b → Splits (next ∷ rest) → Splits (byte ∷ next ∷ rest)
    by_first true is more = splits_at_end byte (next ∷ rest) is
    by_first false is more = splits_ahead byte (next ∷ rest) is more

-- the same in the words of the code, whose slices are cut at their ends
module _ (text : List ℕ) (end : ℕ) (some : 0 < length text) (is : end ≡ position_or_len is_end text) where
  -- what stands from a place on
  abbrev from : ℕ → List ℕ
  from at = take (length text - at) (drop at text)

  pub lines_of-split : lines_of text ≡ take end text ∷ lines_of (from (end + 1))
  lines_of-split =
      let rest : from (end + 1) ≡ drop (end + 1) text = take_all _ _ (omega (arith, length-drop (end + 1) text)) in
      rw (rest, is) (lines_of-first text some)

  -- a text without an end is one line
  pub lines_of-last : end ≡ length text → lines_of text ≡ text ∷ lines_of (from end)
  lines_of-last all =
      let whole : take end text ≡ text = take_all end text (omega (arith, all)) in
      let nothing : drop end text ≡ [] = drop_all end text (omega (arith, all)) in
      let none : from end ≡ [] = rw nothing (take_all (length text - end) [] (omega arith)) in
      let after : drop (end + 1) text ≡ [] = drop_all (end + 1) text (omega (arith, all)) in
      let first : lines_of text ≡ take end text ∷ lines_of (drop (end + 1) text) = rw is (lines_of-first text some) in
      rw (none, first, whole, after) refl
