-- What a journal tells in the name of one guest, as it grows.
use Rattle.std.proofs.Common.{◌≡◌, ◌≢◌, ℕ, Bool, true, false, List, [], ◌∷◌, ◌++◌, filter, map, cond, ap, ◌∙◌, refl, sym, eq-eqb, ne_eqb}
use Rattle.std.proofs.lemmas.List.{map-append}
use Rattle.std.proofs.lemmas.List.Elements.{filter-append}
use Rattle.cfi_plan.specs.declared.journal.Entry.{Entry}
use Rattle.cfi_plan.specs.declared.journal.JournalLine.{JournalLine}
use Rattle.cfi_plan.specs.declared.journal.Who.TheVariants.{Script}
use Rattle.cfi_slips.specs.Lines.{is_guest, line_for, lines_of}

-- of one journal and then another
pub lines_append : (guest : ℕ) (xs ys : List Entry) → lines_of guest (xs ++ ys) ≡ lines_of guest xs ++ lines_of guest ys
lines_append guest xs ys =
    ap (map (λ (e : Entry). e.what)) (filter-append (λ (e : Entry). is_guest guest e.who) xs ys)
    ∙ map-append (λ (e : Entry). e.what) (filter (λ (e : Entry). is_guest guest e.who) xs)
    (filter (λ (e : Entry). is_guest guest e.who) ys)

one_is : (guest : ℕ) (e : Entry) (b : Bool) → is_guest guest e.who ≡ b
    → lines_of guest (e ∷ []) ≡ map (λ (x : Entry). x.what) (cond b (e ∷ []) [])
one_is guest e b is = ap (λ b. map (λ (x : Entry). x.what) (cond b (e ∷ []) [])) is

-- a line is one of the guest who asked
pub line_here : (guest : ℕ) (what : JournalLine) → lines_of guest (line_for guest what ∷ []) ≡ what ∷ []
line_here guest what = one_is guest (line_for guest what) true (eq-eqb guest guest refl)

-- and of no other
pub line_else : (guest other : ℕ) (what : JournalLine) → other ≢ guest → lines_of other (line_for guest what ∷ []) ≡ []
line_else guest other what apart = one_is other (line_for guest what) false (ne_eqb guest other (λ e. apart (sym e)))

-- nor is one for which the script asked
pub line_script : (guest : ℕ) (what : JournalLine) → lines_of guest (record { who = Script; what = what } ∷ []) ≡ []
line_script guest what = refl
