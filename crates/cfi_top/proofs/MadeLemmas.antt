-- What each command has done where the status is 0.
use Rattle.std.proofs.Common.{◌≡◌, ℕ, List, [], ◌∷◌, Option, sym, subst}
use Rattle.std.specs.Prelude.{IsSomeAnd}
use Rattle.std.specs.Io.KnownBytes.{Appends}
use Rattle.cfi_guest_run.specs.Concluded.{Conclusion}
use Rattle.cfi_io.specs.Files.{Puts}
use Rattle.cfi_io.specs.Told.{WhereKeptTold}
use Rattle.cfi_request.specs.declared.command.Command.TheVariants as commands
use Rattle.cfi_top.specs.declared.answer.Answer.{Answer}
use Rattle.cfi_top.specs.declared.answer.Answer.TheVariants as answers
use Rattle.cfi_request.specs.declared.output.TheConstants.{DONE}
use Rattle.cfi_top.specs.Answer.{output_of, run_in}
use Rattle.cfi_request.specs.Command.{IsCommand, more_of}
use Rattle.cfi_request.specs.Outside.{Holds, IsWrittenWhole}
use Rattle.cfi_io.specs.Seen.{ShelfView, SinkView}
use Rattle.cfi_request.specs.Plans.{named_files, named_files_and, run_files}
use Rattle.cfi_request.specs.Reading.{AreRead}
use Rattle.cfi_top.specs.Outcome.{IsMade}
use Rattle.cfi_top.specs.Top.{Ends, HasRun, HasGenerated, HasSimulated, HasListed, HasAssembled, HasInstrumented, HasStubbed, HasLinked, HasVerified, HasGraphed}
use Rattle.cfi_request.proofs.ReadingLemmas.{one_file}
use Rattle.cfi_top.proofs.DoneLemmas.{command_done}

module _ (input bytes : List ℕ) (shelf shelf' : ShelfView) (sink sink' : SinkView)
    (held : Holds shelf input bytes) (more : List (List ℕ)) where
  asm_done : (output : List ℕ) (answer : Answer) → IsMade (commands.Asm input output) (bytes ∷ []) more answer
      → IsWrittenWhole (output_of answer) shelf shelf' sink sink' → HasAssembled input output shelf shelf' sink sink'
  asm_done output (answers.Save name file) made whole = record {
    bytes = bytes;
    held = held;
    file = file;
    made = made.1;
    saved = subst (λ (n : List ℕ). WhereKeptTold shelf.files shelf'.files (Puts n file)) made.0 whole.1;
    silent = whole.0;
  }
  asm_done output (answers.Print text) made whole = absurd made
  asm_done output (answers.Ran it said) made whole = absurd made
  asm_done output answers.Usage made whole = absurd made
  asm_done output (answers.Unread unread) made whole = absurd made
  asm_done output (answers.Refused name refusal) made whole = absurd made

  instrument_done : (output : List ℕ) (answer : Answer)
      → IsMade (commands.Instrument input output) (bytes ∷ []) more answer
      → IsWrittenWhole (output_of answer) shelf shelf' sink sink' → HasInstrumented input output shelf shelf' sink sink'
  instrument_done output (answers.Save name file) made whole = record {
    bytes = bytes;
    held = held;
    file = file;
    made = made.1;
    saved = subst (λ (n : List ℕ). WhereKeptTold shelf.files shelf'.files (Puts n file)) made.0 whole.1;
    silent = whole.0;
  }
  instrument_done output (answers.Print text) made whole = absurd made
  instrument_done output (answers.Ran it said) made whole = absurd made
  instrument_done output answers.Usage made whole = absurd made
  instrument_done output (answers.Unread unread) made whole = absurd made
  instrument_done output (answers.Refused name refusal) made whole = absurd made

  stub_done : (output : List ℕ) (answer : Answer)
      → IsMade (commands.Stub input output) (bytes ∷ []) more answer
      → IsWrittenWhole (output_of answer) shelf shelf' sink sink' → HasStubbed input output shelf shelf' sink sink'
  stub_done output (answers.Save name file) made whole = record {
    bytes = bytes;
    held = held;
    file = file;
    made = made.1;
    saved = subst (λ (n : List ℕ). WhereKeptTold shelf.files shelf'.files (Puts n file)) made.0 whole.1;
    silent = whole.0;
  }
  stub_done output (answers.Print text) made whole = absurd made
  stub_done output (answers.Ran it said) made whole = absurd made
  stub_done output answers.Usage made whole = absurd made
  stub_done output (answers.Unread unread) made whole = absurd made
  stub_done output (answers.Refused name refusal) made whole = absurd made

  list_done : (answer : Answer) → IsMade (commands.List input) (bytes ∷ []) more answer
      → IsWrittenWhole (output_of answer) shelf shelf' sink sink' → HasListed input shelf sink sink'
  list_done (answers.Print text) made whole =
      record { bytes = bytes; held = held; text = text; listing = made; printed = whole.1 }
  list_done (answers.Ran it said) made whole = absurd made
  list_done (answers.Save name file) made whole = absurd made
  list_done answers.Usage made whole = absurd made
  list_done (answers.Unread unread) made whole = absurd made
  list_done (answers.Refused name refusal) made whole = absurd made

module _ (input bytes : List ℕ) (shelf shelf' : ShelfView) (sink sink' : SinkView)
    (held : Holds shelf input bytes) (files : List (List ℕ)) (read : AreRead shelf (named_files bytes) files) where
  verify_done : (answer : Answer) → IsMade (commands.Verify input) (bytes ∷ []) files answer
      → IsWrittenWhole (output_of answer) shelf shelf' sink sink' → HasVerified input shelf sink sink'
  verify_done (answers.Print text) made whole =
      record { bytes = bytes; held = held; files = files; read = read; text = text; said = made; printed = whole.1 }
  verify_done (answers.Ran it said) made whole = absurd made
  verify_done (answers.Save name file) made whole = absurd made
  verify_done answers.Usage made whole = absurd made
  verify_done (answers.Unread unread) made whole = absurd made
  verify_done (answers.Refused name refusal) made whole = absurd made

  graph_done : (answer : Answer) → IsMade (commands.Graph input) (bytes ∷ []) files answer
      → IsWrittenWhole (output_of answer) shelf shelf' sink sink' → HasGraphed input shelf sink sink'
  graph_done (answers.Print text) made whole =
      record { bytes = bytes; held = held; files = files; read = read; text = text; said = made; printed = whole.1 }
  graph_done (answers.Ran it said) made whole = absurd made
  graph_done (answers.Save name file) made whole = absurd made
  graph_done answers.Usage made whole = absurd made
  graph_done (answers.Unread unread) made whole = absurd made
  graph_done (answers.Refused name refusal) made whole = absurd made

module _ (input schedule bytes : List ℕ) (shelf shelf' : ShelfView) (sink sink' : SinkView)
    (held : Holds shelf input bytes) (files : List (List ℕ))
    (read : AreRead shelf (named_files_and bytes schedule) files) where
  sim_done : (answer : Answer) → IsMade (commands.Sim input schedule) (bytes ∷ []) files answer
      → IsWrittenWhole (output_of answer) shelf shelf' sink sink' → HasSimulated input schedule shelf sink sink'
  sim_done (answers.Print text) made whole =
      record { bytes = bytes; held = held; files = files; read = read; text = text; said = made; printed = whole.1 }
  sim_done (answers.Ran it said) made whole = absurd made
  sim_done (answers.Save name file) made whole = absurd made
  sim_done answers.Usage made whole = absurd made
  sim_done (answers.Unread unread) made whole = absurd made
  sim_done (answers.Refused name refusal) made whole = absurd made

module _ (input bytes : List ℕ) (shelf shelf' : ShelfView) (sink sink' : SinkView) (run : Option Conclusion)
    (held : Holds shelf input bytes) (files : List (List ℕ)) (read : AreRead shelf (run_files bytes) files) where
  run_done : (answer : Answer) → IsMade (commands.Run input) (bytes ∷ []) files answer
      → IsWrittenWhole (output_of answer) shelf shelf' sink sink' → run ≡ run_in answer
      → IsSomeAnd run (HasRun input shelf sink sink')
  run_done (answers.Ran it said) made whole handed =
      subst (λ (o : Option Conclusion). IsSomeAnd o (HasRun input shelf sink sink')) (sym handed) (record {
        bytes = bytes;
        held = held;
        files = files;
        read = read;
        run_is = made.1;
        text = subst (Appends sink.written sink'.written) made.0 whole.1;
      })
  run_done (answers.Print text) made whole handed = absurd made
  run_done (answers.Save name file) made whole handed = absurd made
  run_done answers.Usage made whole handed = absurd made
  run_done (answers.Unread unread) made whole handed = absurd made
  run_done (answers.Refused name refusal) made whole handed = absurd made

generated_done : (seed count : ℕ) (files more : List (List ℕ)) (shelf shelf' : ShelfView) (sink sink' : SinkView)
    (run : Option Conclusion) → (answer : Answer) → IsMade (commands.Gen seed count) files more answer
    → IsWrittenWhole (output_of answer) shelf shelf' sink sink' → run ≡ run_in answer
    → IsSomeAnd run (HasGenerated seed count sink sink')
generated_done seed count files more shelf shelf' sink sink' run (answers.Ran it said) made whole handed =
    subst (λ (o : Option Conclusion). IsSomeAnd o (HasGenerated seed count sink sink')) (sym handed)
    (record { text = said; run_is = made; printed = whole.1 })
generated_done seed count files more shelf shelf' sink sink' run (answers.Print text) made whole handed = absurd made
generated_done seed count files more shelf shelf' sink sink' run (answers.Save name file) made whole handed = absurd made
generated_done seed count files more shelf shelf' sink sink' run answers.Usage made whole handed = absurd made
generated_done seed count files more shelf shelf' sink sink' run (answers.Unread unread) made whole handed = absurd made
generated_done seed count files more shelf shelf' sink sink' run (answers.Refused name refusal) made whole handed =
    absurd made

pub generated_of : (words : List (List ℕ)) (shelf shelf' : ShelfView) (sink sink' : SinkView) (status : ℕ)
    (run : Option Conclusion) → Ends words shelf shelf' sink sink' status run → (seed count : ℕ)
    → IsCommand words (commands.Gen seed count) → status ≡ DONE
    → IsSomeAnd run (HasGenerated seed count sink sink')
generated_of words shelf shelf' sink sink' status run ends seed count fits e =
    let done = command_done words shelf shelf' sink sink' status run e (commands.Gen seed count) fits ends in
    generated_done seed count done.files done.more shelf shelf' sink sink' run done.answer done.made done.delivered
    done.handed

link_done : (output : List ℕ) (inputs files more : List (List ℕ)) (shelf shelf' : ShelfView) (sink sink' : SinkView)
    → AreRead shelf inputs files → (answer : Answer) → IsMade (commands.Link output inputs) files more answer
    → IsWrittenWhole (output_of answer) shelf shelf' sink sink' → HasLinked output inputs shelf shelf' sink sink'
link_done output inputs files more shelf shelf' sink sink' read (answers.Save name file) made whole = record {
  files = files;
  read = read;
  file = file;
  made = made.1;
  saved = subst (λ (n : List ℕ). WhereKeptTold shelf.files shelf'.files (Puts n file)) made.0 whole.1;
  silent = whole.0;
}
link_done output inputs files more shelf shelf' sink sink' read (answers.Print text) made whole = absurd made
link_done output inputs files more shelf shelf' sink sink' read (answers.Ran it said) made whole = absurd made
link_done output inputs files more shelf shelf' sink sink' read answers.Usage made whole = absurd made
link_done output inputs files more shelf shelf' sink sink' read (answers.Unread unread) made whole = absurd made
link_done output inputs files more shelf shelf' sink sink' read (answers.Refused name refusal) made whole = absurd made

pub assembled_of : (words : List (List ℕ)) (shelf shelf' : ShelfView) (sink sink' : SinkView) (status : ℕ)
    (run : Option Conclusion) → Ends words shelf shelf' sink sink' status run → (input output : List ℕ)
    → IsCommand words (commands.Asm input output) → status ≡ DONE
    → HasAssembled input output shelf shelf' sink sink'
assembled_of words shelf shelf' sink sink' status run ends input output fits e =
    let done = command_done words shelf shelf' sink sink' status run e (commands.Asm input output) fits ends in
    let one = one_file shelf input done.files done.read.inputs in
    let made = subst (λ (fs : List (List ℕ)). IsMade (commands.Asm input output) fs done.more done.answer) one.1
    done.made in
    asm_done input one.0 shelf shelf' sink sink' one.2 done.more output done.answer made done.delivered

pub instrumented_of : (words : List (List ℕ)) (shelf shelf' : ShelfView) (sink sink' : SinkView) (status : ℕ)
    (run : Option Conclusion) → Ends words shelf shelf' sink sink' status run → (input output : List ℕ)
    → IsCommand words (commands.Instrument input output) → status ≡ DONE
    → HasInstrumented input output shelf shelf' sink sink'
instrumented_of words shelf shelf' sink sink' status run ends input output fits e =
    let done = command_done words shelf shelf' sink sink' status run e (commands.Instrument input output) fits ends in
    let one = one_file shelf input done.files done.read.inputs in
    let made = subst (λ (fs : List (List ℕ)). IsMade (commands.Instrument input output) fs done.more done.answer) one.1
    done.made in
    instrument_done input one.0 shelf shelf' sink sink' one.2 done.more output done.answer made done.delivered

pub stubbed_of : (words : List (List ℕ)) (shelf shelf' : ShelfView) (sink sink' : SinkView) (status : ℕ)
    (run : Option Conclusion) → Ends words shelf shelf' sink sink' status run → (input output : List ℕ)
    → IsCommand words (commands.Stub input output) → status ≡ DONE
    → HasStubbed input output shelf shelf' sink sink'
stubbed_of words shelf shelf' sink sink' status run ends input output fits e =
    let done = command_done words shelf shelf' sink sink' status run e (commands.Stub input output) fits ends in
    let one = one_file shelf input done.files done.read.inputs in
    let made = subst (λ (fs : List (List ℕ)). IsMade (commands.Stub input output) fs done.more done.answer) one.1
    done.made in
    stub_done input one.0 shelf shelf' sink sink' one.2 done.more output done.answer made done.delivered

pub ran_of : (words : List (List ℕ)) (shelf shelf' : ShelfView) (sink sink' : SinkView) (status : ℕ)
    (run : Option Conclusion) → Ends words shelf shelf' sink sink' status run → (input : List ℕ)
    → IsCommand words (commands.Run input) → status ≡ DONE → IsSomeAnd run (HasRun input shelf sink sink')
ran_of words shelf shelf' sink sink' status run ends input fits e =
    let done = command_done words shelf shelf' sink sink' status run e (commands.Run input) fits ends in
    let one = one_file shelf input done.files done.read.inputs in
    let made = subst (λ (fs : List (List ℕ)). IsMade (commands.Run input) fs done.more done.answer) one.1
    done.made in
    let read = subst (λ (fs : List (List ℕ)). AreRead shelf (more_of (commands.Run input) fs) done.more) one.1
    done.read.others in
    run_done input one.0 shelf shelf' sink sink' run one.2 done.more read done.answer made done.delivered done.handed

pub simulated_of : (words : List (List ℕ)) (shelf shelf' : ShelfView) (sink sink' : SinkView) (status : ℕ)
    (run : Option Conclusion) → Ends words shelf shelf' sink sink' status run → (input schedule : List ℕ)
    → IsCommand words (commands.Sim input schedule) → status ≡ DONE → HasSimulated input schedule shelf sink sink'
simulated_of words shelf shelf' sink sink' status run ends input schedule fits e =
    let command = commands.Sim input schedule in
    let done = command_done words shelf shelf' sink sink' status run e command fits ends in
    let one = one_file shelf input done.files done.read.inputs in
    let made = subst (λ (fs : List (List ℕ)). IsMade command fs done.more done.answer) one.1 done.made in
    let read = subst (λ (fs : List (List ℕ)). AreRead shelf (more_of command fs) done.more) one.1 done.read.others in
    sim_done input schedule one.0 shelf shelf' sink sink' one.2 done.more read done.answer made done.delivered

pub listed_of : (words : List (List ℕ)) (shelf shelf' : ShelfView) (sink sink' : SinkView) (status : ℕ)
    (run : Option Conclusion) → Ends words shelf shelf' sink sink' status run → (input : List ℕ)
    → IsCommand words (commands.List input) → status ≡ DONE → HasListed input shelf sink sink'
listed_of words shelf shelf' sink sink' status run ends input fits e =
    let done = command_done words shelf shelf' sink sink' status run e (commands.List input) fits ends in
    let one = one_file shelf input done.files done.read.inputs in
    let made = subst (λ (fs : List (List ℕ)). IsMade (commands.List input) fs done.more done.answer) one.1
    done.made in
    list_done input one.0 shelf shelf' sink sink' one.2 done.more done.answer made done.delivered

pub linked_of : (words : List (List ℕ)) (shelf shelf' : ShelfView) (sink sink' : SinkView) (status : ℕ)
    (run : Option Conclusion) → Ends words shelf shelf' sink sink' status run → (output : List ℕ) (inputs : List (List ℕ))
    → IsCommand words (commands.Link output inputs) → status ≡ DONE
    → HasLinked output inputs shelf shelf' sink sink'
linked_of words shelf shelf' sink sink' status run ends output inputs fits e =
    let done = command_done words shelf shelf' sink sink' status run e (commands.Link output inputs) fits ends in
    link_done output inputs done.files done.more shelf shelf' sink sink' done.read.inputs done.answer done.made
    done.delivered

pub verified_of : (words : List (List ℕ)) (shelf shelf' : ShelfView) (sink sink' : SinkView) (status : ℕ)
    (run : Option Conclusion) → Ends words shelf shelf' sink sink' status run → (input : List ℕ)
    → IsCommand words (commands.Verify input) → status ≡ DONE → HasVerified input shelf sink sink'
verified_of words shelf shelf' sink sink' status run ends input fits e =
    let done = command_done words shelf shelf' sink sink' status run e (commands.Verify input) fits ends in
    let one = one_file shelf input done.files done.read.inputs in
    let made = subst (λ (fs : List (List ℕ)). IsMade (commands.Verify input) fs done.more done.answer) one.1
    done.made in
    let read = subst (λ (fs : List (List ℕ)). AreRead shelf (more_of (commands.Verify input) fs) done.more) one.1
    done.read.others in
    verify_done input one.0 shelf shelf' sink sink' one.2 done.more read done.answer made done.delivered

pub graphed_of : (words : List (List ℕ)) (shelf shelf' : ShelfView) (sink sink' : SinkView) (status : ℕ)
    (run : Option Conclusion) → Ends words shelf shelf' sink sink' status run → (input : List ℕ)
    → IsCommand words (commands.Graph input) → status ≡ DONE → HasGraphed input shelf sink sink'
graphed_of words shelf shelf' sink sink' status run ends input fits e =
    let done = command_done words shelf shelf' sink sink' status run e (commands.Graph input) fits ends in
    let one = one_file shelf input done.files done.read.inputs in
    let made = subst (λ (fs : List (List ℕ)). IsMade (commands.Graph input) fs done.more done.answer) one.1
    done.made in
    let read = subst (λ (fs : List (List ℕ)). AreRead shelf (more_of (commands.Graph input) fs) done.more) one.1
    done.read.others in
    graph_done input one.0 shelf shelf' sink sink' one.2 done.more read done.answer made done.delivered
