-- What a load of a module that joins answers, and what it leaves.
use Rattle.std.proofs.Common.{◌≡◌, ℕ, ◌+◌, ◌-◌, ◌<◌, ◌++◌, Bool, true, false, List, [], ◌∷◌, length, get_or, Option, refl, sym, ap, subst, ◌∙◌, arith, length-append}
use Rattle.std.specs.List.{slice_get}
use Rattle.std.proofs.lemmas.List.{get_or_push}
use Rattle.std.proofs.lemmas.Option.{slice_get_read}
use Rattle.cfi_aux.specs.declared.placed.Placed.{Placed}
use Rattle.cfi_plan.specs.declared.journal.JournalLine.{JournalLine}
use Rattle.cfi_plan.specs.declared.journal.JournalLine.TheVariants.{LoadOk}
use Rattle.cfi_plan.specs.declared.journal.ModuleLine.{ModuleLine}
use Rattle.cfi_plan.specs.declared.journal.Who.{Who}
use Rattle.cfi_policy.specs.Book.{KeptImage, KeepsNumbers}
use Rattle.cfi_tables.specs.Faults.{FaultIs}
use Rattle.cfi_tables.specs.Keeping.{Keeping, entry_by, grown_by, last_of}
use Rattle.cfi_tables.specs.Key.{Key}
use Rattle.cfi_tables.specs.declared.fault.UpdateFault.{UpdateFault}
use Rattle.cfi_tables.specs.declared.fault.UpdateFault.TheVariants.{EpochsSpent, VersionsSpent}
use Rattle.cfi_valid.specs.Loaded.{planned_name}
use Rattle.cfi_valid.specs.Script.{Load}
use Rattle.cfi_word.specs.declared.limits.TheConstants.{MAX_EPOCH}
use Rattle.cfi_word.specs.declared.lists.Image.{Image}
use Rattle.cfi_ledger.specs.declared.books.Books.{Books}
use Rattle.cfi_loader.specs.declared.loaded.Loaded.{Loaded}
use Rattle.cfi_loader.specs.Mark.{mark_by}
use Rattle.cfi_ledger.specs.Journal.{asked_by, Minutes, HasLine}
use Rattle.cfi_loader.specs.Results.{KeepsClasses, SaysOf, RefusesBy}
use Rattle.cfi_loader.specs.Told.{MayAskFor}
use Rattle.cfi_ledger.specs.Books.{committed, course_in, with_journal, with_roster}
use Rattle.cfi_loader.specs.inner.Books.{ledger_of, BooksAgree, IsAfter}
use Rattle.cfi_ledger.specs.Loads.{HasPrepared, IsAbsent, IsFlagged, IsListed}
use Rattle.cfi_ledger.specs.Opens.{IsFirstGlobal}
use Rattle.cfi_loader.specs.inner.Loads.{LoadsTo, Refuses, load_fault_by, update_line}
use Rattle.cfi_ledger.specs.Roster.{Roster, IsBookOfRoster, IsFilled, line_by, live_placed}
use Rattle.cfi_loader.proofs.LineLemmas.{line_new, line_refused}
use Rattle.cfi_loader.proofs.LiveLemmas.{flags_many, live_places}
use Rattle.cfi_ledger.proofs.FlagLemmas.{live_address}
use Rattle.cfi_loader.proofs.PrepareLemmas.{clean, load_made}
use Rattle.cfi_loader.proofs.UpdateLemmas.{IsRight, after_load_refused}

-- an image that keeps the class numbers of the books' keeps those of the image in force
pub keeps_classes : (k : Key) (b new : Books) (before after : Keeping) (roster : Roster) (book : KeptImage)
    → BooksAgree k b before → BooksAgree k new after → new.force.roster ≡ roster → new.book ≡ book
    → KeepsNumbers (live_placed roster) b.book.image book.image → KeepsClasses (ledger_of b before) (ledger_of new after)
keeps_classes k b new before after roster book mine theirs roster_is book_is keeps =
    let live : List Placed = live_placed new.force.roster in
    let of_new : KeepsNumbers live b.book.image new.book.image =
    subst (λ (r : Roster). KeepsNumbers (live_placed r) b.book.image new.book.image) (sym roster_is)
    (subst (λ (x : KeptImage). KeepsNumbers (live_placed roster) b.book.image x.image) (sym book_is) keeps) in
    subst (λ (ps : List Placed). KeepsNumbers ps (last_of before.entries).image (last_of after.entries).image)
    (sym (live_places k new after theirs))
    (subst (λ (i : Image). KeepsNumbers live i (last_of after.entries).image) mine.image_is
    (subst (λ (i : Image). KeepsNumbers live b.book.image i) theirs.image_is of_new))

module _ (k : Key) (b : Books) (keeping : Keeping) (kept : BooksAgree k b keeping) (who : Who) (number : ℕ)
    (asks : MayAskFor (ledger_of b keeping) who (Load number)) where
  module _ (absent : IsAbsent b number) (mid new : Books) (lent : mid ≡ with_roster mid.force.roster b)
      (roster : Roster) (prepared : HasPrepared b number roster) (after : Keeping) where
    lines_there : (line : JournalLine) → HasLine (asked_by who line) mid.force.journal new.force.journal
        → HasLine (asked_by who line) b.force.journal new.force.journal
    lines_there line has =
        subst (λ (j : Minutes). HasLine (asked_by who line) j new.force.journal)
        (ap (λ (m : Books). m.force.journal) lent) has

    -- its update was made
    pub made_answers : IsFilled roster → (book : KeptImage) → IsBookOfRoster roster book → b.force.epoch < MAX_EPOCH
        → HasLine (asked_by who (LoadOk number (mid.force.epoch + 1) (mid.force.policy + 1))) mid.force.journal
        new.force.journal
        → new ≡ committed roster book new.force.journal mid
        → after ≡ grown_by (entry_by (mid.force.policy + 1) book.image (mark_by who (Load number))) after.quiets keeping
        → (answer : Loaded) → answer.again ≡ false → answer.epoch ≡ new.force.epoch
        → answer.policy ≡ new.force.policy → (p : Placed)
        → IsFirstGlobal (get_or roster.placed (length roster.placed - 1) p) answer.address
        → LoadsTo k who number answer b new keeping after
    made_answers filled book of left has same grown answer again epoch_of policy_of p first =
        let there : Books = committed roster book new.force.journal b in
        let new_is : new ≡ there = same ∙ ap (committed roster book new.force.journal) lent in
        let grown_is : after ≡
        grown_by (entry_by (b.force.policy + 1) book.image (mark_by who (Load number))) after.quiets keeping =
        grown
        ∙ ap (λ (m : Books). grown_by (entry_by (m.force.policy + 1) book.image (mark_by who (Load number)))
        after.quiets keeping) lent in
        let line : JournalLine = LoadOk number (b.force.epoch + 1) (b.force.policy + 1) in
        let has_there : HasLine (asked_by who line) b.force.journal new.force.journal =
        subst (λ (m : Books). HasLine (asked_by who (LoadOk number (m.force.epoch + 1) (m.force.policy + 1)))
        m.force.journal new.force.journal) lent has in
        let all = load_made k b keeping kept number roster prepared absent book of filled after.quiets who
        new.force.journal left has_there asks in
        let with_after : IsAfter k (asked_by who line) b there keeping after =
        subst (IsAfter k (asked_by who line) b there keeping) (sym grown_is) all in
        let epoch_is : answer.epoch ≡ b.force.epoch + 1 = epoch_of ∙ ap (λ (m : Books). m.force.epoch) new_is in
        let policy_is : answer.policy ≡ b.force.policy + 1 = policy_of ∙ ap (λ (m : Books). m.force.policy) new_is in
        let last_line : ModuleLine =
        line_by number (planned_name b.plan.modules number) (b.force.policy + 1) prepared.joined.one in
        let lines_are : roster.lines ≡ b.force.roster.lines ++ last_line ∷ [] =
        ap (λ (r : Roster). r.lines) prepared.joined.is in
        let placed_are : roster.placed ≡ b.force.roster.placed ++ prepared.joined.one ∷ [] =
        ap (λ (r : Roster). r.placed) prepared.joined.is in
        let long : length roster.placed ≡ length b.force.roster.lines + 1 =
        ap (λ (ps : List Placed). length ps) placed_are
        ∙ omega (arith, length-append b.force.roster.placed (prepared.joined.one ∷ []), kept.roster_is.many) in
        let listed : IsListed roster number (length roster.placed - 1) = record {
          within = omega (arith, long);
          number_is = λ d.
              ap (λ (ls : List ModuleLine). (get_or ls (length roster.placed - 1) d).number) lines_are
              ∙ ap (λ (l : ModuleLine). l.number)
              (get_or_push b.force.roster.lines last_line d (length roster.placed - 1) (omega (arith, long)));
        } in
        let flags_are : roster.flags ≡ b.force.roster.flags ++ true ∷ [] =
        ap (λ (r : Roster). r.flags) prepared.joined.is in
        let end : length roster.placed - 1 ≡ length b.force.roster.flags =
        omega (arith, long, kept.roster_is.many, flags_many k b keeping kept) in
        let live : IsFlagged roster (length roster.placed - 1) true =
        ap (λ (bs : List Bool). slice_get bs (length roster.placed - 1)) flags_are
        ∙ slice_get_read (b.force.roster.flags ++ true ∷ []) (length (b.force.roster.flags ++ true ∷ []))
        (length roster.placed - 1) true refl (omega (arith, end, length-append b.force.roster.flags (true ∷ [])))
        (sym (get_or_push b.force.roster.flags true true (length roster.placed - 1) (sym end))) in
        subst (λ (nb : Books). LoadsTo k who number answer b nb keeping after) (sym new_is) (record {
          all = subst (λ (l : JournalLine). IsAfter k (asked_by who l) b there keeping after)
              (sym (line_new number answer (b.force.epoch + 1) (b.force.policy + 1) again epoch_is policy_is)) with_after;
          epoch_is = epoch_is;
          policy_is = policy_is;
          address_is =
              live_address there.force with_after.kept.roster_is.many with_after.kept.flags_are number
              (length roster.placed - 1) listed live p answer.address first;
        })

    -- or it was refused, and the books have a line more
    pub turned_down : (before : Roster) → before ≡ b.force.roster
        → new ≡ with_roster before (with_journal new.force.journal mid) → new ≡ with_journal new.force.journal b
    turned_down before back same =
        same
        ∙ ap (λ (m : Books). with_roster before (with_journal new.force.journal m)) lent
        ∙ ap (λ (r : Roster). with_roster r (with_journal new.force.journal b)) back

    pub unmade_refuses : (before : Roster) → before ≡ b.force.roster → (fault : UpdateFault) → IsRight k keeping fault
        → FaultIs k (mark_by who (Load number)) keeping after fault
        → HasLine (asked_by who (update_line number fault)) mid.force.journal new.force.journal
        → new ≡ with_roster before (with_journal new.force.journal mid)
        → Refuses k who number (load_fault_by fault) b new keeping after
    unmade_refuses before back fault right is has same =
        let there : Books = with_journal new.force.journal b in
        let new_is : new ≡ there = turned_down before back same in
        let all = after_load_refused k b keeping kept new.force.journal after who number fault right is
        (lines_there (update_line number fault) has) asks (clean k b keeping kept number roster prepared absent) in
        subst (λ (nb : Books). Refuses k who number (load_fault_by fault) b nb keeping after) (sym new_is) (record {
          kept = all.kept;
          fault_is = subst (λ (o : Option JournalLine). RefusesBy k who number (load_fault_by fault) o
              (ledger_of b keeping) (ledger_of there after)) (sym (line_refused number fault))
              (record { told = all.told; says = says_nothing fault });
        })
      where
        says_nothing : (fault : UpdateFault) → SaysOf (course_in b) number (load_fault_by fault)
        says_nothing EpochsSpent = tt
        says_nothing (VersionsSpent guest quiet) = tt
