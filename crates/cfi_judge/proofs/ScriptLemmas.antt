-- The calls that are left, beside the lines that are left.
use Rattle.std.proofs.Common.{◌≡◌, ℕ, ◌+◌, ◌<◌, ◌≤◌, ◌++◌, Bool, true, false, not, List, [], ◌∷◌, length, map, drop, get_or, Option, Some, None, sym, ap, ◌∙◌}
use Rattle.std.specs.Prelude.{◌↔◌, IsTrue, filter, is_some, option_map, slice_get}
use Rattle.std.proofs.Math.ListN.{drop_of_length-le}
use Rattle.std.proofs.lemmas.List.{map-append, at_drop_more}
use Rattle.std.proofs.lemmas.List.Elements.{filter-append}
use Rattle.cfi_ledger.specs.Calls.{call_due}
use Rattle.cfi_ledger.specs.declared.due.Due.{Due}
use Rattle.cfi_ledger.proofs.CallLemmas.{none_left}
use Rattle.cfi_plan.specs.declared.journal.Entry.{Entry}
use Rattle.cfi_valid.specs.Script.{Call, call_of, is_script, made_by_script}
use Rattle.cfi_judge.proofs.RefutesLemmas.{never_true, refuted, yes}

-- the first line's call comes before those of the others
made_cons : (entry : Entry) (rest : List Entry)
    → made_by_script (entry ∷ rest) ≡ made_by_script (entry ∷ []) ++ made_by_script rest
made_cons entry rest =
    ap (map (λ (e : Entry). call_of e.what)) (filter-append (λ (e : Entry). is_script e.who) (entry ∷ []) rest)
    ∙ map-append (λ (e : Entry). call_of e.what) (filter (λ (e : Entry). is_script e.who) (entry ∷ []))
    (filter (λ (e : Entry). is_script e.who) rest)

-- the lines from one on tell the calls that are left exactly where all lines tell all, and this line's is not the next
module _ (All : Type 0) (journal : List Entry) (at : ℕ) (within : at < length journal) (left : List Call)
    (exact : (made_by_script (drop at journal) ≡ left) ↔ All) where
  pub left_other : (d : Entry) (took : Bool)
      → ((rest : List Call) → made_by_script (get_or journal at d ∷ []) ++ rest ≡ left → IsTrue took) → took ≡ false
      → IsTrue false ↔ All
  left_other d took only wrong = refuted All (λ all.
      let later : List Entry = drop (at + 1) journal in
      let seam : made_by_script (get_or journal at d ∷ []) ++ made_by_script later ≡ left =
      sym (at_drop_more made_by_script journal at d within ∙ made_cons (get_or journal at d) later) ∙ exact.1 all in
      let right : took ≡ true = only (made_by_script later) seam in
      never_true (sym wrong ∙ right))

-- no line is left
module _ (All : Type 0) (journal : List Entry) (at : ℕ) (end : length journal ≤ at) (left : List Call)
    (exact : (made_by_script (drop at journal) ≡ left) ↔ All) where
  none_made : made_by_script (drop at journal) ≡ []
  none_made = ap made_by_script (drop_of_length-le journal end)

  pub left_none : (due : Option Due) → option_map call_due due ≡ slice_get left 0 → (none : Bool)
      → is_some due ≡ not none → IsTrue none ↔ All
  left_none None due_is true answer =
      yes All (exact.0 (none_made ∙ sym (none_left left (sym due_is))))
  left_none None due_is false answer = absurd (cc)
  left_none (Some due) due_is true answer = absurd (cc)
  left_none (Some due) due_is false answer =
      refuted All (λ all.
      let empty : [] ≡ left = sym none_made ∙ exact.1 all in
      let none : slice_get left 0 ≡ None = ap (λ (calls : List Call). slice_get calls 0) (sym empty) in
      absurd (cc))
