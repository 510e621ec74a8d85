-- What the answers to a guest's opens bring, with more at its end, and where the run goes on.
use Rattle.std.proofs.Common.{List, [], ◌∷◌, ◌++◌, sym, ◌∙◌, arith}
use Rattle.cfi_model.specs.declared.history.Access.{Access}
use Rattle.cfi_model.specs.Raw.{Raw}
use Rattle.cfi_model.specs.Run.{Take, Word, Served, take_one, run_of}
use Rattle.cfi_runner.specs.Run.{words_found}
use Rattle.cfi_valid.specs.Growth.{IsLater}
use Rattle.cfi_valid.specs.Journal.{JournalState}
use Rattle.cfi_valid.specs.Loaded.{Filled}
use Rattle.cfi_valid.specs.Replay.{given_by}
use Rattle.cfi_valid.proofs.GrowthLemmas.{fills_stay}
use Rattle.cfi_guest_run.specs.Path.{AreDue, IsDueWith}

pub due_append : (end : JournalState) (a b : List Take) (r : Raw) → AreDue end r a → AreDue end (run_of r a) b
    → AreDue end r (a ++ b)
due_append end [] b r one other = other
due_append end (t ∷ a) b r one other = (one.0, due_append end a b (take_one r t) one.1 other)

pub due_words : (end : JournalState) (accesses : List Access) (r : Raw) → AreDue end r (words_found accesses)
due_words end [] r = tt
due_words end (access ∷ later) r = (tt, due_words end later (take_one r (Word access.found)))

due_with : (old new : JournalState) → IsLater old new → (r : Raw) (t : Take) → IsDueWith old r t → IsDueWith new r t
due_with old new later r (Word word) due = tt
due_with old new later r (Served reply) due = λ free.
    (let is = due free in
    record {
      most = omega (arith, is.most, later.policy);
      fills = is.fills ∙ sym (fills_stay old new later reply.policy is.most Filled (given_by r.base.log));
    })

pub due_later : (old new : JournalState) → IsLater old new → (takes : List Take) (r : Raw) → AreDue old r takes
    → AreDue new r takes
due_later old new later [] r due = tt
due_later old new later (t ∷ takes) r due =
    (due_with old new later r t due.0, due_later old new later takes (take_one r t) due.1)
