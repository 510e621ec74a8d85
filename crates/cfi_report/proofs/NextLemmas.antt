-- A text that begins with a line begins with no other, and the code finds this line.
use Rattle.std.proofs.Common.{◌≡◌, ℕ, ◌≤◌, ◌==◌, true, false, List, [], ◌∷◌, ◌++◌, length, Some, None, refl, sym, ap, ◌∙◌, arith, append_assoc, length-append}
use Rattle.std.specs.List.{join_with_byte, slice_split, AllByRecursion}
use Rattle.std.proofs.lemmas.List.Splits.{slice_split_at, slice_split_none, join_with_byte-slice_split, length-slice_split}
use Rattle.std.proofs.lemmas.Bool.{false≢true}
use Rattle.cfi_report.specs.declared.line.Line.{Line}
use Rattle.cfi_report.specs.declared.stage.Stage.{Stage}
use Rattle.cfi_report.specs.Line.{line_words, line_text}
use Rattle.cfi_report.specs.Report.{IsLine, lines_text}
use Rattle.cfi_report.specs.inner.Draft.{may_follow}
use Rattle.cfi_report.specs.inner.Next.{IsNext, HasNoNext}
use Rattle.cfi_report.specs.inner.Form.{Lacks, spaced_words, line_form}
use Rattle.cfi_report.proofs.BackLemmas.{form-back}
use Rattle.cfi_report.proofs.SaidLemmas.{form-says}
use Rattle.cfi_report.proofs.SolidLemmas.{line_words-parted, line_words-no_end, line_text-long}

-- the text of a line without its end
abbrev bare_text : Line → List ℕ
bare_text one = join_with_byte 32 (line_words one)

joined : (bare : List ℕ) → join_with_byte 32 (spaced_words bare) ≡ bare
unfolding spaced_words
joined bare = join_with_byte-slice_split 32 bare

-- the text goes on after the line
after : (one : Line) (rest : List ℕ) → line_text one ++ rest ≡ bare_text one ++ 10 ∷ rest
after one rest = append_assoc (bare_text one) (10 ∷ []) rest

-- the line that a form says stands in the text
pub next-is : (text bare rest : List ℕ) (one : Line) → text ≡ bare ++ 10 ∷ rest → line_form (spaced_words bare) ≡ Some one
    → IsLine one × (text ≡ line_text one ++ rest)
next-is text bare rest one split form =
    let said = rw form at (form-says (spaced_words bare)) in
    let same : bare_text one ≡ bare = ap (join_with_byte 32) said.says.1 ∙ joined bare in
    (said.says.0, split ∙ ap (λ (l : List ℕ). l ++ 10 ∷ rest) (sym same) ∙ sym (after one rest))

-- the end of a line parts a text in one way
same_split : (a b xs ys : List ℕ) → Lacks 10 a → Lacks 10 b → a ++ 10 ∷ xs ≡ b ++ 10 ∷ ys → (a ≡ b) × (xs ≡ ys)
same_split a b xs ys h g same =
    let parts = λ (l : List ℕ). slice_split (λ byte. byte == 10) l in
    let all : a ∷ parts xs ≡ b ∷ parts ys = sym (slice_split_at _ a 10 xs h refl) ∙ ap parts same
    ∙ slice_split_at _ b 10 ys g refl in
    let first : a ≡ b = cc in
    let others : parts xs ≡ parts ys = cc in
    (first, sym (join_with_byte-slice_split 10 xs) ∙ ap (join_with_byte 10) others ∙ join_with_byte-slice_split 10 ys)

-- the words of a line say this line
found : (one : Line) → IsLine one → line_form (spaced_words (bare_text one)) ≡ Some one
found one h = ap line_form (line_words-parted one h) ∙ form-back one h

-- a line that stands in the text is found
pub next-only : (text bare rest : List ℕ) (one : Line) (more : List ℕ) → text ≡ bare ++ 10 ∷ rest → Lacks 10 bare
    → IsLine one → text ≡ line_text one ++ more → (line_form (spaced_words bare) ≡ Some one) × (rest ≡ more)
next-only text bare rest one more split lacks h stands =
    let same = same_split bare (bare_text one) rest more lacks (line_words-no_end one h)
    (sym split ∙ stands ∙ after one more) in
    (ap (λ (l : List ℕ). line_form (spaced_words l)) same.0 ∙ found one h, same.1)

-- a text without an end has no line
pub next-none : (text : List ℕ) (one : Line) (more : List ℕ) → Lacks 10 text → IsLine one
    → text ≡ line_text one ++ more → ⊥
next-none text one more lacks h stands =
    let parts = λ (l : List ℕ). slice_split (λ byte. byte == 10) l in
    let all : text ∷ [] ≡ bare_text one ∷ parts more =
    sym (slice_split_none _ text lacks) ∙ ap parts (stands ∙ after one more)
    ∙ slice_split_at _ (bare_text one) 10 more (line_words-no_end one h) refl in
    let nothing : length (parts more) ≡ 0 = ap length (let none : [] ≡ parts more = cc in sym none) in
    omega (arith, nothing, length-slice_split (λ byte. byte == 10) more)

-- two lines at the front are one
same_line : (one other : Line) (xs ys : List ℕ) → IsLine one → IsLine other
    → line_text one ++ xs ≡ line_text other ++ ys → (one ≡ other) × (xs ≡ ys)
same_line one other xs ys h g same =
    let next = next-only (line_text one ++ xs) (bare_text one) xs other ys (after one xs) (line_words-no_end one h) g
    same in
    let is : Some one ≡ Some other = sym (found one h) ∙ next.0 in
    let lines : one ≡ other = cc in
    (lines, next.1)

-- a text that begins with lines, and with as many or more others, begins with these first
pub follow_on : (lines others : List Line) (rest more : List ℕ) → AllByRecursion IsLine lines
    → AllByRecursion IsLine others
    → length lines ≤ length others → lines_text lines ++ rest ≡ lines_text others ++ more
    → (tail : List Line) × ((others ≡ lines ++ tail) × (rest ≡ lines_text tail ++ more))
follow_on [] others rest more h g few same = (others, (refl, same))
follow_on (one ∷ lines) [] rest more h g few same = absurd (omega (arith, few))
follow_on (one ∷ lines) (other ∷ others) rest more h g few same =
    let first = same_line one other (lines_text lines ++ rest) (lines_text others ++ more) h.0 g.0
    (sym (append_assoc (line_text one) (lines_text lines) rest) ∙ same
    ∙ append_assoc (line_text other) (lines_text others) more) in
    let next = follow_on lines others rest more h.1 g.1 (omega (arith, few)) first.1 in
    (next.0, (cc (first.0, next.1.0), next.1.1))

-- so does a text that is lines as a whole
pub whole_follows : (lines others : List Line) (rest : List ℕ) → AllByRecursion IsLine lines
    → AllByRecursion IsLine others
    → lines_text lines ++ rest ≡ lines_text others
    → (tail : List Line) × ((others ≡ lines ++ tail) × (rest ≡ lines_text tail))
whole_follows [] others rest h g same = (others, (refl, same))
whole_follows (one ∷ lines) [] rest h g same =
    let none : length (line_text one ++ (lines_text lines ++ rest)) ≡ 0 = ap length
    (sym (append_assoc (line_text one) (lines_text lines) rest) ∙ same) in
    absurd (omega (arith, none, length-append (line_text one) (lines_text lines ++ rest), line_text-long one))
whole_follows (one ∷ lines) (other ∷ others) rest h g same =
    let first = same_line one other (lines_text lines ++ rest) (lines_text others) h.0 g.0
    (sym (append_assoc (line_text one) (lines_text lines) rest) ∙ same) in
    let next = whole_follows lines others rest h.1 g.1 first.1 in
    (next.0, (cc (first.0, next.1.0), next.1.1))

-- what the code finds at the front of a text

pub next-IsNext : (at : Stage) (text bare rest : List ℕ) (one : Line) → text ≡ bare ++ 10 ∷ rest
    → Some one ≡ line_form (spaced_words bare) → may_follow at one ≡ true → IsNext at text one rest
next-IsNext at text bare rest one split form may =
    let is = next-is text bare rest one split (sym form) in
    record { line = is.0; follows = may; stands = is.1 }

pub astray-HasNoNext : (at : Stage) (text bare rest : List ℕ) (one : Line) → text ≡ bare ++ 10 ∷ rest → Lacks 10 bare
    → Some one ≡ line_form (spaced_words bare) → may_follow at one ≡ false → HasNoNext at text
astray-HasNoNext at text bare rest one split lacks form may = λ other more next.
    let is = next-only text bare rest other more split lacks next.line next.stands in
    let same : one ≡ other = cc (form, is.0) in
    false≢true (sym may ∙ ap (may_follow at) same ∙ next.follows)

pub unread-HasNoNext : (at : Stage) (text bare rest : List ℕ) → text ≡ bare ++ 10 ∷ rest → Lacks 10 bare
    → None ≡ line_form (spaced_words bare) → HasNoNext at text
unread-HasNoNext at text bare rest split lacks form = λ other more next.
    let is = next-only text bare rest other more split lacks next.line next.stands in
    cc (form, is.0)

pub unended-HasNoNext : (at : Stage) (text : List ℕ) → Lacks 10 text → HasNoNext at text
unended-HasNoNext at text lacks = λ other more next. next-none text other more lacks next.line next.stands
