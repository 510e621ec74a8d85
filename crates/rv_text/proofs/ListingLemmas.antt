-- Words are read as one list of pieces, and the listing grows piece by piece.
use Rattle.std.proofs.Common.{◌≡◌, ℕ, suc, ◌+◌, ◌-◌, ◌*◌, ◌<◌, ◌≤◌, List, [], ◌∷◌, ◌++◌, length, take, drop, Option, Some, None, refl, ap, sym, subst, ◌∙◌, arith, length-append}
use Rattle.std.specs.Prelude.{slice_index, codes}
use mathlib.Core.List.{append_assoc, append-nil}
use Rattle.std.proofs.Math.Seq.{drop-append_seam, take-append_seam}
use Rattle.cfi_unit.specs.declared.unit.Unit.{Unit as CodeUnit}
use Rattle.cfi_unit.proofs.UnitLemmas.{size_pos}
use Rattle.cfi_unit.proofs.CodeLemmas.{BeginsAt-one, BeginsAt-within}
use Rattle.rv_text.specs.Listing.{IsPiece, IsPieceAt, ReadAs, piece_mark, piece_size, line_of, plain_lines, marked_lines, piece_lines, lines_from, listing_of, IsListing, AppendsPart}

-- one piece at most is read at a place, and it ends within the words
pub IsPiece-one : (words : List ℕ) (at : ℕ) (p q : Option CodeUnit) → IsPiece words at p → IsPiece words at q → p ≡ q
IsPiece-one words at None None f g = refl
IsPiece-one words at None (Some v) f g = absurd (f.1 v g)
IsPiece-one words at (Some u) None f g = absurd (g.1 u f)
IsPiece-one words at (Some u) (Some v) f g = ap (λ w. Some w) (BeginsAt-one words at u v f g)

piece_size-pos : (p : Option CodeUnit) → 0 < piece_size p
piece_size-pos None = omega arith
piece_size-pos (Some u) = size_pos u

pub IsPiece-within : (words : List ℕ) (at : ℕ) (p : Option CodeUnit) → IsPiece words at p →
    at + piece_size p ≤ length words
IsPiece-within words at None f = omega (arith, f.0)
IsPiece-within words at (Some u) f = BeginsAt-within words at u f

-- words are read as one list of pieces
pub ReadAs-one : (words : List ℕ) (at : ℕ) (ps qs : List (Option CodeUnit)) → ReadAs words at ps → ReadAs words at qs →
    ps ≡ qs
ReadAs-one words at [] [] f g = refl
ReadAs-one words at [] (q ∷ qs) f g =
    absurd (omega (arith, f, IsPiece-within words at q g.0, piece_size-pos q))
ReadAs-one words at (p ∷ ps) [] f g =
    absurd (omega (arith, g, IsPiece-within words at p f.0, piece_size-pos p))
ReadAs-one words at (p ∷ ps) (q ∷ qs) f g =
    let same : p ≡ q = IsPiece-one words at p q f.0 g.0 in
    let rest : ReadAs words (at + piece_size p) qs = subst (λ r. ReadAs words (at + piece_size r) qs) (sym same) g.1 in
    let others = ReadAs-one words (at + piece_size p) ps qs f.1 rest in
    cc

-- of lines without a mark that are left, the first is there next
pub plain_lines-step : (words : List ℕ) (k end : ℕ) → k < end → plain_lines words k (end - k)
    ≡ line_of (slice_index words k) (4 * k) [] ++ plain_lines words (k + 1) (end - (k + 1))
plain_lines-step words k end lt =
    let next : end - k ≡ suc (end - (k + 1)) = omega arith in
    ap (plain_lines words k) next

-- the bytes have grown by the listing of what was read before a place
pub record Listed (words old new : List ℕ) (at : ℕ) : Type 0 where
  pub done : List ℕ
  pub grown : new ≡ old ++ done
  pub within : at ≤ length words
  pub some : (rest : List (Option CodeUnit)) → ReadAs words at rest →
      (pieces : List (Option CodeUnit)) × ReadAs words 0 pieces
      × (listing_of words pieces ≡ done ++ lines_from words at rest)
  pub only : (pieces : List (Option CodeUnit)) → ReadAs words 0 pieces →
      (rest : List (Option CodeUnit)) × ReadAs words at rest
      × (listing_of words pieces ≡ done ++ lines_from words at rest)

pub Listed-start : (words old : List ℕ) → Listed words old (old ++ codes ".text\n") 0
Listed-start words old = record {
  done = codes ".text\n";
  grown = refl;
  within = omega arith;
  some = λ rest h. (rest, h, refl);
  only = λ pieces h. (pieces, h, refl);
}

-- what is left to read where a piece stands begins with it
ReadAs-piece : (words : List ℕ) (at : ℕ) (p : Option CodeUnit) (rest : List (Option CodeUnit)) → IsPiece words at p →
    ReadAs words at rest → (more : List (Option CodeUnit)) × (rest ≡ p ∷ more) × ReadAs words (at + piece_size p) more
ReadAs-piece words at p [] f h = absurd (omega (arith, h, IsPiece-within words at p f, piece_size-pos p))
ReadAs-piece words at p (q ∷ more) f h =
    let same : q ≡ p = IsPiece-one words at q p h.0 f in (
      more,
      ap (λ r. r ∷ more) same,
      subst (λ r. ReadAs words (at + piece_size r) more) same h.1,
    )

Listed-piece : (words old new : List ℕ) (at : ℕ) (p : Option CodeUnit) → IsPiece words at p → Listed words old new at →
    Listed words old (new ++ piece_lines words at p) (at + piece_size p)
Listed-piece words old new at p f l = record {
  done = l.done ++ piece_lines words at p;
  grown = ap (λ xs. xs ++ piece_lines words at p) l.grown ∙ append_assoc old l.done (piece_lines words at p);
  within = IsPiece-within words at p f;
  some = λ rest h.
      let all = l.some (p ∷ rest) (f, h) in
      let lines = lines_from words (at + piece_size p) rest in
      (all.0, all.1, all.2 ∙ sym (append_assoc l.done (piece_lines words at p) lines));
  only = λ pieces h.
      let left = l.only pieces h in
      let first = ReadAs-piece words at p left.0 f left.1 in (
        first.0,
        first.2,
        left.2 ∙ ap (λ r. l.done ++ lines_from words at r) first.1
            ∙ sym (append_assoc l.done (piece_lines words at p) (lines_from words (at + piece_size p) first.0)),
      );
}

pub Listed-step : (words old new lines : List ℕ) (at : ℕ) (mark : List ℕ) (size : ℕ) → IsPieceAt words at mark size →
    lines ≡ marked_lines words at mark size → Listed words old new at → Listed words old (new ++ lines) (at + size)
Listed-step words old new lines at mark size found text l =
    let step = Listed-piece words old new at found.0 found.1 l in
    let same : lines ≡ piece_lines words at found.0 =
    text ∙ ap (λ m. marked_lines words at m size) found.2
    ∙ ap (λ n. marked_lines words at (piece_mark found.0) n) found.3 in
    subst (λ n. Listed words old (new ++ lines) (at + n)) (sym found.3)
    (subst (λ ls. Listed words old (new ++ ls) (at + piece_size found.0)) (sym same) step)

-- a piece ends within the words
pub IsPieceAt-within : (words : List ℕ) (at : ℕ) (mark : List ℕ) (size : ℕ) → IsPieceAt words at mark size →
    (at + size ≤ length words) × (0 < size)
IsPieceAt-within words at mark size found = (
  omega (arith, found.3, IsPiece-within words at found.0 found.1),
  omega (arith, found.3, piece_size-pos found.0),
)

-- at the end all was read
ReadAs-end : (words : List ℕ) (at : ℕ) (rest : List (Option CodeUnit)) → length words ≤ at → ReadAs words at rest →
    rest ≡ []
ReadAs-end words at [] e h = refl
ReadAs-end words at (p ∷ rest) e h = absurd (omega (arith, IsPiece-within words at p h.0, piece_size-pos p))

pub Listed-only : (words old new : List ℕ) (at : ℕ) → length words ≤ at → Listed words old new at →
    (pieces : List (Option CodeUnit)) → ReadAs words 0 pieces → new ≡ old ++ listing_of words pieces
Listed-only words old new at e l pieces h =
    let left = l.only pieces h in
    let none = ReadAs-end words at left.0 e left.1 in
    let text : listing_of words pieces ≡ l.done =
    left.2 ∙ ap (λ r. l.done ++ lines_from words at r) none ∙ append-nil l.done in
    l.grown ∙ ap (λ xs. old ++ xs) (sym text)

pub Listed-ok : (words old new : List ℕ) (at : ℕ) → length words ≤ at → Listed words old new at →
    IsListing words (drop (length old) new)
Listed-ok words old new at e l =
    let all = l.some [] (omega (arith, l.within)) in
    let text : drop (length old) new ≡ l.done = ap (drop (length old)) l.grown ∙ drop-append_seam old l.done in
    (all.0, all.1, text ∙ sym (append-nil l.done) ∙ sym all.2)

-- on the way the bytes have grown by a first part of the listing
pub AppendsPart-none : (old text : List ℕ) → AppendsPart old old text
AppendsPart-none old text =
    let none : length old - length old ≡ 0 = omega arith in
    sym (append-nil old) ∙ ap (λ n. old ++ take n text) (sym none)

pub Listed-part : (words old new : List ℕ) (at : ℕ) → Listed words old new at →
    (pieces : List (Option CodeUnit)) → ReadAs words 0 pieces → AppendsPart old new (listing_of words pieces)
Listed-part words old new at l pieces h =
    let left = l.only pieces h in
    let more = ap length l.grown ∙ length-append old l.done in
    let count : length new - length old ≡ length l.done = omega arith in
    let part : take (length l.done) (listing_of words pieces) ≡ l.done =
    ap (take (length l.done)) left.2 ∙ take-append_seam l.done (lines_from words at left.0) in
    l.grown ∙ ap (λ xs. old ++ xs) (sym part) ∙ ap (λ n. old ++ take n (listing_of words pieces)) (sym count)

-- words have one listing
pub IsListing-one : (words s t : List ℕ) → IsListing words s → IsListing words t → s ≡ t
IsListing-one words s t f g =
    f.2 ∙ ap (listing_of words) (ReadAs-one words 0 f.0 g.0 f.1 g.1) ∙ sym g.2
