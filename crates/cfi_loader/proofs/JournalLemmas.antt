-- What of a journal marks, refusals and the script tell, with a line more.
use Rattle.std.proofs.Common.{◌≡◌, ◌++◌, Bool, true, false, cond, List, [], ◌∷◌, map, Option, Some, None, sym, ap, ◌∙◌, append_assoc}
use Rattle.std.specs.Prelude.{filter, filter_map, drop}
use Rattle.std.specs.List.{slice_get, cons_option}
use Rattle.std.proofs.lemmas.List.{append-nil, map-append}
use Rattle.std.proofs.lemmas.List.Elements.{filter-append, filter_map-append}
use Rattle.cfi_plan.specs.declared.journal.Entry.{Entry}
use Rattle.cfi_plan.specs.declared.journal.JournalLine.{JournalLine}
use Rattle.cfi_plan.specs.declared.journal.Who.{Who}
use Rattle.cfi_plan.specs.declared.journal.Who.TheVariants.{Script, Guest}
use Rattle.cfi_valid.specs.Script.{Call, call_of, is_script, made_by_script}
use Rattle.cfi_ledger.specs.Calls.{calls_after}
use Rattle.cfi_loader.specs.Mark.{mark_of, is_made, made_marks, Spent, spent_in}

-- ---- marks

abbrev makes : Entry → Bool
makes e = is_made e.what

marks_append : (journal : List Entry) (entry : Entry)
    → made_marks (journal ++ entry ∷ []) ≡ made_marks journal ++ map mark_of (cond (makes entry) (entry ∷ []) [])
marks_append journal entry =
    ap (map mark_of) (filter-append makes journal (entry ∷ []))
    ∙ map-append mark_of (filter makes journal) (filter makes (entry ∷ []))

pub marks_more : (journal : List Entry) (entry : Entry) → is_made entry.what ≡ true
    → made_marks (journal ++ entry ∷ []) ≡ made_marks journal ++ mark_of entry ∷ []
marks_more journal entry is =
    marks_append journal entry
    ∙ ap (λ (b : Bool). made_marks journal ++ map mark_of (cond b (entry ∷ []) [])) is

pub marks_same : (journal : List Entry) (entry : Entry) → is_made entry.what ≡ false
    → made_marks (journal ++ entry ∷ []) ≡ made_marks journal
marks_same journal entry is =
    marks_append journal entry
    ∙ ap (λ (b : Bool). made_marks journal ++ map mark_of (cond b (entry ∷ []) [])) is
    ∙ append-nil (made_marks journal)

-- ---- updates that were not admitted

pub spent_more : (journal : List Entry) (entry : Entry) (s : Spent) → spent_in entry ≡ Some s
    → filter_map spent_in (journal ++ entry ∷ []) ≡ filter_map spent_in journal ++ s ∷ []
spent_more journal entry s is =
    filter_map-append spent_in journal (entry ∷ [])
    ∙ ap (λ (o : Option Spent). filter_map spent_in journal ++ cons_option o []) is

pub spent_same : (journal : List Entry) (entry : Entry) → spent_in entry ≡ None
    → filter_map spent_in (journal ++ entry ∷ []) ≡ filter_map spent_in journal
spent_same journal entry is =
    filter_map-append spent_in journal (entry ∷ [])
    ∙ ap (λ (o : Option Spent). filter_map spent_in journal ++ cons_option o []) is
    ∙ append-nil (filter_map spent_in journal)

-- ---- the script

abbrev asks : Entry → Bool
asks e = is_script e.who

abbrev call_in : Entry → Call
call_in e = call_of e.what

calls_append : (journal : List Entry) (entry : Entry) → made_by_script (journal ++ entry ∷ [])
    ≡ made_by_script journal ++ map call_in (cond (asks entry) (entry ∷ []) [])
calls_append journal entry =
    ap (map call_in) (filter-append asks journal (entry ∷ []))
    ∙ map-append call_in (filter asks journal) (filter asks (entry ∷ []))

first_and_rest : (left : List Call) (call : Call) → slice_get left 0 ≡ Some call → left ≡ call ∷ drop 1 left
first_and_rest [] call is = absurd (cc)
first_and_rest (first ∷ rest) call is =
    let same : first ≡ call = cc in
    ap (λ (c : Call). c ∷ rest) same

-- the script's call is the next one that was left
abbrev pub IsNext : Who → List Call → Call → Type 0
IsNext Script left call = slice_get left 0 ≡ Some call
IsNext (Guest number) left call = Unit {0}

pub script_more : (journal : List Entry) (who : Who) (what : JournalLine) (left all : List Call)
    → IsNext who left (call_of what) → made_by_script journal ++ left ≡ all
    → made_by_script (journal ++ record { who = who; what = what } ∷ []) ++ calls_after who left ≡ all
script_more journal Script what left all next before =
    ap (λ (calls : List Call). calls ++ drop 1 left) (calls_append journal (record { who = Script; what = what }))
    ∙ append_assoc (made_by_script journal) (call_of what ∷ []) (drop 1 left)
    ∙ ap (λ (calls : List Call). made_by_script journal ++ calls) (sym (first_and_rest left (call_of what) next))
    ∙ before
script_more journal (Guest number) what left all next before =
    ap (λ (calls : List Call). calls ++ left)
    (calls_append journal (record { who = Guest number; what = what }) ∙ append-nil (made_by_script journal))
    ∙ before
