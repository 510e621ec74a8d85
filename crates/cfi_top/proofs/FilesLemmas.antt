-- Which files stay, and when valid input gives 0 or 6.
use Rattle.std.proofs.Common.{◌≡◌, ℕ, ◌≤◌, ◌⊎◌, List, map, Option, Some, None, inl, inr, arith, sym, subst, IfSome, ◌∙◌}
use Rattle.std.specs.Prelude.{◌≢◌}
use Rattle.cfi_guest_run.specs.Concluded.{Conclusion}
use Rattle.cfi_io.specs.Count.{Rose}
use Rattle.cfi_io.specs.Files.{Files}
use Rattle.cfi_io.specs.Told.{WhereKeptTold}
use Rattle.cfi_commands.specs.declared.refusal.Refusal.{Refusal}
use Rattle.cfi_request.specs.declared.command.Command.{Command}
use Rattle.cfi_top.specs.declared.answer.Answer.{Answer}
use Rattle.cfi_top.specs.declared.answer.Answer.TheVariants as answers
use Rattle.cfi_request.specs.declared.output.TheConstants.{DONE, WRITE_FAULT, MEMORY}
use Rattle.cfi_top.specs.Answer.{output_of}
use Rattle.cfi_request.specs.Command.{IsCommand, inputs_of, more_of}
use Rattle.cfi_request.specs.Outside.{IsWrittenWhole, IsBroken, status_of}
use Rattle.cfi_io.specs.Seen.{ShelfView, SinkView}
use Rattle.cfi_io.specs.declared.undone.Undone.{Undone}
use Rattle.cfi_top.specs.Outcome.{Refuses, IsUnrefused, IsAllRead, IsAnswer}
use Rattle.cfi_top.specs.Top.{Ends, IsSavedBy, Saves, IsValid, IsSteady}
use Rattle.cfi_request.proofs.CommandLemmas.{one_command}
use Rattle.cfi_request.proofs.OutsideLemmas.{kept_same, kept_puts, kept_part}
use Rattle.cfi_request.proofs.ReadingLemmas.{same_files, unread_most, unread_unsteady}
use Rattle.cfi_top.proofs.UnreadLemmas.{why_of}
use Rattle.cfi_top.proofs.TopLemmas.{saves_of}

-- a shelf by its parts
abbrev shelf_view : Option Files → (faults misses : ℕ) → (last : Option Undone) → ShelfView
shelf_view files faults misses last = record { files = files; faults = faults; misses = misses; last = last }

-- files that a command refuses are not valid
refused_valid : (words : List (List ℕ)) (told : Files) (faults misses : ℕ) (last : Option Undone) (command : Command)
    (files more : List (List ℕ)) (name : List ℕ) (refusal : Refusal) → IsValid words told → IsCommand words command
    → IsAllRead command (shelf_view (Some told) faults misses last) files more → Refuses command files more name refusal → ⊥
refused_valid words told faults misses last command files more name refusal v fits read refuses =
    let same = one_command words v.command command v.fits fits in
    let there : map told (inputs_of command) ≡ map Some v.files =
    subst (λ (c : Command). map told (inputs_of c) ≡ map Some v.files) same v.inputs.held in
    let equal : v.files ≡ files = same_files v.files files (sym there ∙ read.inputs.held) in
    let named : map told (more_of command v.files) ≡ map Some v.more =
    subst (λ (c : Command). map told (more_of c v.files) ≡ map Some v.more) same v.others.held in
    let behind : map told (more_of command files) ≡ map Some v.more =
    subst (λ (fs : List (List ℕ)). map told (more_of command fs) ≡ map Some v.more) equal named in
    let alike : v.more ≡ more = same_files v.more more (sym behind ∙ read.others.held) in
    let unrefused : IsUnrefused command v.files v.more =
    subst (λ (c : Command). IsUnrefused c v.files v.more) same v.unrefused in
    let here : IsUnrefused command files v.more =
    subst (λ (fs : List (List ℕ)). IsUnrefused command fs v.more) equal unrefused in
    subst (IsUnrefused command files) alike here name refusal refuses

module _ (words : List (List ℕ)) (sink sink' : SinkView) (status : ℕ)
    (run : Option Conclusion) where
  -- valid input over a shelf and a sink that do not fail gives 0 or 6
  valid_of : (told : Files) (faults misses : ℕ) (last : Option Undone) (shelf' : ShelfView)
      → Ends words (shelf_view (Some told) faults misses last) shelf' sink sink' status run → IsValid words told
      → IsSteady (shelf_view (Some told) faults misses last) shelf' sink sink' → (status ≡ DONE) ⊎ (status ≡ MEMORY)
  valid_of told faults misses last shelf' (inl memory) v steady = inr memory.0.0
  valid_of told faults misses last shelf' (inr (answers.Usage, is, inl d, kept)) v steady = absurd (is (v.command, v.fits))
  valid_of told faults misses last shelf' (inr (answers.Ran it text, is, inl d, kept)) v steady = inl d.0
  valid_of told faults misses last shelf' (inr (answers.Print text, is, inl d, kept)) v steady = inl d.0
  valid_of told faults misses last shelf' (inr (answers.Save name file, is, inl d, kept)) v steady = inl d.0
  valid_of told faults misses last shelf' (inr (answers.Unread unread, is, inl d, kept)) v steady =
      absurd (unread_unsteady (shelf_view (Some told) faults misses last) shelf' unread.name unread.cause
      (why_of is.0 (shelf_view (Some told) faults misses last) shelf' unread is.2) steady.read steady.found)
  valid_of told faults misses last shelf' (inr (answers.Refused name refusal, is, inl d, kept)) v steady =
      absurd (refused_valid words told faults misses last is.0 is.2.0 is.2.1 name refusal v is.1 is.2.2 is.2.3)
  valid_of told faults misses last shelf' (inr (answers.Save name file, is, inr d, kept)) v steady =
      absurd (steady.read d.1.1.rose)
  valid_of told faults misses last shelf' (inr (answers.Usage, is, inr d, kept)) v steady = absurd (steady.written d.1.1)
  valid_of told faults misses last shelf' (inr (answers.Ran it text, is, inr d, kept)) v steady = absurd (steady.written d.1.1)
  valid_of told faults misses last shelf' (inr (answers.Print text, is, inr d, kept)) v steady = absurd (steady.written d.1.1)
  valid_of told faults misses last shelf' (inr (answers.Unread unread, is, inr d, kept)) v steady = absurd (steady.written d.1.1)
  valid_of told faults misses last shelf' (inr (answers.Refused name refusal, is, inr d, kept)) v steady =
      absurd (steady.written d.1.1)

  -- the same, where the shelf may tell nothing
  valid_if : (files : Option Files) (faults misses : ℕ) (last : Option Undone) (shelf' : ShelfView)
      → Ends words (shelf_view files faults misses last) shelf' sink sink' status run
      → IfSome files (λ told. IsValid words told → IsSteady (shelf_view files faults misses last) shelf' sink sink'
      → (status ≡ DONE) ⊎ (status ≡ MEMORY))
  valid_if None faults misses last shelf' ends = tt
  valid_if (Some told) faults misses last shelf' ends = valid_of told faults misses last shelf' ends

  pub valid_shelf : (shelf shelf' : ShelfView) → Ends words shelf shelf' sink sink' status run
      → IfSome shelf.files (λ told. IsValid words told → IsSteady shelf shelf' sink sink'
      → (status ≡ DONE) ⊎ (status ≡ MEMORY))
  valid_shelf shelf shelf' ends = valid_if shelf.files shelf.faults shelf.misses shelf.last shelf' ends

module _ (words : List (List ℕ)) (shelf shelf' : ShelfView) (sink sink' : SinkView) (status : ℕ)
    (run : Option Conclusion) where
  -- names that no command saves
  abbrev pub Stay : Type 0
  Stay = WhereKeptTold shelf.files shelf'.files (λ told told'.
      (name : List ℕ) → ¬ IsSavedBy words name → told' name ≡ told name)

  -- a name that is saved is no other
  apart : (here : List ℕ) → IsSavedBy words here → (name : List ℕ) → ¬ IsSavedBy words name → name ≢ here
  apart here saved name unsaved same = unsaved (subst (IsSavedBy words) (sym same) saved)

  whole_stays : (answer : Answer) → IsAnswer words shelf shelf' answer
      → IsWrittenWhole (output_of answer) shelf shelf' sink sink' → Stay
  whole_stays (answers.Save name file) is whole =
      kept_puts shelf.files shelf'.files _ name file (apart name (saves_of words shelf shelf' name file is)) whole.1
  whole_stays answers.Usage is whole = kept_same shelf.files shelf'.files _ whole.0
  whole_stays (answers.Ran it text) is whole = kept_same shelf.files shelf'.files _ whole.0
  whole_stays (answers.Print text) is whole = kept_same shelf.files shelf'.files _ whole.0
  whole_stays (answers.Unread unread) is whole = kept_same shelf.files shelf'.files _ whole.0
  whole_stays (answers.Refused name refusal) is whole = kept_same shelf.files shelf'.files _ whole.0

  broken_stays : (answer : Answer) → IsAnswer words shelf shelf' answer
      → IsBroken (output_of answer) shelf shelf' sink sink' → Stay
  broken_stays (answers.Save name file) is broken =
      kept_part shelf.files shelf'.files _ name file (apart name (saves_of words shelf shelf' name file is)) broken.2
  broken_stays answers.Usage is broken = kept_same shelf.files shelf'.files _ broken.0
  broken_stays (answers.Ran it text) is broken = kept_same shelf.files shelf'.files _ broken.0
  broken_stays (answers.Print text) is broken = kept_same shelf.files shelf'.files _ broken.0
  broken_stays (answers.Unread unread) is broken = kept_same shelf.files shelf'.files _ broken.0
  broken_stays (answers.Refused name refusal) is broken = kept_same shelf.files shelf'.files _ broken.0

  pub elsewhere_of : Ends words shelf shelf' sink sink' status run → Stay
  elsewhere_of (inl memory) = kept_same shelf.files shelf'.files _ memory.0.1
  elsewhere_of (inr (answer, is, inl d, kept)) = whole_stays answer is d.1
  elsewhere_of (inr (answer, is, inr d, kept)) = broken_stays answer is d.1

  -- the files are the same, or one was saved, whole or in part
  abbrev pub Keeps : Type 0
  Keeps = (shelf'.files ≡ shelf.files) ⊎ (Saves words
      × ((status ≡ DONE) ⊎ ((status ≡ WRITE_FAULT) × Rose shelf.faults shelf'.faults)))

  whole_keeps : (answer : Answer) → IsAnswer words shelf shelf' answer → status ≡ status_of (output_of answer)
      → IsWrittenWhole (output_of answer) shelf shelf' sink sink' → Keeps
  whole_keeps (answers.Save name file) is e whole = inr ((name, saves_of words shelf shelf' name file is), inl e)
  whole_keeps answers.Usage is e whole = inl whole.0
  whole_keeps (answers.Ran it text) is e whole = inl whole.0
  whole_keeps (answers.Print text) is e whole = inl whole.0
  whole_keeps (answers.Unread unread) is e whole = inl whole.0
  whole_keeps (answers.Refused name refusal) is e whole = inl whole.0

  broken_keeps : (answer : Answer) → IsAnswer words shelf shelf' answer → status ≡ WRITE_FAULT
      → IsBroken (output_of answer) shelf shelf' sink sink' → Keeps
  broken_keeps (answers.Save name file) is e broken =
      inr ((name, saves_of words shelf shelf' name file is), inr (e, broken.1.rose))
  broken_keeps answers.Usage is e broken = inl broken.0
  broken_keeps (answers.Ran it text) is e broken = inl broken.0
  broken_keeps (answers.Print text) is e broken = inl broken.0
  broken_keeps (answers.Unread unread) is e broken = inl broken.0
  broken_keeps (answers.Refused name refusal) is e broken = inl broken.0

  pub same_of : Ends words shelf shelf' sink sink' status run → Keeps
  same_of (inl memory) = inl memory.0.1
  same_of (inr (answer, is, inl d, kept)) = whole_keeps answer is d.0 d.1
  same_of (inr (answer, is, inr d, kept)) = broken_keeps answer is d.0 d.1

  status_within : (answer : Answer) → status_of (output_of answer) ≤ MEMORY
  status_within answers.Usage = omega arith
  status_within (answers.Ran it text) = omega arith
  status_within (answers.Print text) = omega arith
  status_within (answers.Save name file) = omega arith
  status_within (answers.Unread unread) = omega (arith, unread_most unread.cause)
  status_within (answers.Refused name refusal) = omega arith

  pub within_of : Ends words shelf shelf' sink sink' status run → status ≤ MEMORY
  within_of (inl memory) = omega (arith, memory.0.0)
  within_of (inr (answer, is, inl d, kept)) = omega (arith, d.0, status_within answer)
  within_of (inr (answer, is, inr d, kept)) = omega (arith, d.0)
