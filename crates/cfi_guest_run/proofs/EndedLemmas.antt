-- A runner whose guest has stopped, and whose pass agrees with a ledger: the part of its guest.
use Rattle.std.proofs.Common.{◌≡◌, ◌≢◌, ℕ, List, [], ◌∷◌, Some, None, get_or, slice_get, refl, sym, ap, subst, ◌∙◌}
use Rattle.std.proofs.lemmas.Option.{get_or_from_slice_get}
use Rattle.cfi_aux.specs.declared.modules.Module.{Module}
use Rattle.cfi_loader.specs.Ledger.{Ledger, IsLedger}
use Rattle.cfi_model.specs.Came.{takes_in}
use Rattle.cfi_model.specs.Raw.{Raw}
use Rattle.cfi_model.specs.Run.{Take, Word, Served, take_one}
use Rattle.cfi_model.specs.TableMoments.{AreTimed}
use Rattle.cfi_guest_part.specs.Part.{IsEndOf, IsWithin, part_of}
use Rattle.cfi_guest_part.specs.Ran.{AreBrought, HasRun}
use Rattle.cfi_guest_part.proofs.MadeLemmas.{part_made}
use Rattle.cfi_plan.specs.declared.journal.Entry.{Entry}
use Rattle.cfi_plan.specs.declared.journal.JournalLine.{JournalLine}
use Rattle.cfi_plan.specs.declared.plan.Plan.{Plan}
use Rattle.cfi_report.specs.declared.report.GuestPart.{GuestPart}
use Rattle.cfi_runner.proofs.SeenLemmas.{sees_same}
use Rattle.cfi_slips.specs.Lines.{lines_of}
use Rattle.cfi_slips.specs.declared.view.SlipView.{SlipView}
use Rattle.cfi_tables.specs.Key.{Key}
use Rattle.cfi_tables.specs.Rule.{AgreesWith}
use Rattle.cfi_tables.specs.Views.{noted}
use Rattle.cfi_tables.specs.declared.view.PassView.{PassView}
use Rattle.cfi_unit.specs.declared.log.Log.{Log}
use Rattle.cfi_valid.specs.Journal.{members_of, JournalState}
use Rattle.cfi_guest_run.specs.Answered.{AreAnswered, IsSlipOf}
use Rattle.cfi_guest_run.specs.Ending.{IsPartAt, code_by, history_by, part_by, tables_by}
use Rattle.cfi_guest_run.specs.Path.{AreDue}
use Rattle.cfi_guest_run.specs.Runner.{IsRunner, IsRunnerBy}
use Rattle.cfi_guest_run.specs.Serving.{IsPassTold}
use Rattle.cfi_guest_run.proofs.HistoryLemmas.{history_is}
use Rattle.cfi_guest_run.proofs.NoteLemmas.{logged_now, runner_told}

-- what is due is brought
brought : (end : JournalState) (takes : List Take) (r : Raw) → AreDue end r takes → AreBrought (members_of end) r takes
brought end [] r due = tt
brought end (Word word ∷ takes) r due = (tt, brought end takes (take_one r (Word word)) due.1)
brought end (Served reply ∷ takes) r due =
    (λ free. (due.0 free).fills, brought end takes (take_one r (Served reply)) due.1)

module _ (k : Key) (plan : Plan) (modules : List Module) (l : Ledger) (is : IsLedger k plan modules l) (p : PassView)
    (r : Raw) (was : IsRunner k plan modules p r) (agrees : AgreesWith k l.keeping.entries l.keeping.refusals p.sight)
  where
    abbrev n : PassView
    n = noted k l.keeping p

    told : IsPassTold k plan modules l p n
    told = record { ledger = is; agrees = agrees; is = refl }

    at : IsRunnerBy k plan modules n r l
    at = runner_told k plan modules p r was.ledger l was.is was.is.sight is told

    run : HasRun l.course (tables_by k l) (history_by k l) (code_by k l) p.guest r
    run = record {
      start = at.path.start;
      opened = at.path.opened;
      starts = at.path.starts;
      came = at.path.came;
      asked = at.path.asked;
      timed = subst (AreTimed (tables_by k l)) (sym at.path.loads)
          (record { each = agrees.timed.each; order = agrees.timed.order });
      along = at.path.along n.sight (sees_same k n.sight at.sight);
      brings = brought l.course.end (takes_in at.path.came) at.path.start at.path.due;
      ends = subst (λ (last : Raw). IsEndOf last r) at.path.is at.ends;
    }

    pub runner_part : r.base.stop ≢ None → (entry : List ℕ) → slice_get plan.guests p.guest ≡ Some entry
        → IsPartAt k l p.guest (part_of p.guest entry r)
    runner_part stopped entry named =
        let made = part_made l.course (tables_by k l) (history_by k l) (code_by k l) (history_is k plan modules l is) p.guest r run
        stopped (subst (λ (a : Plan). IsWithin a.fuel r) (sym is.plan_is) at.within)
        (logged_now k plan modules p r was.ledger l was.is was.is.sight is told) entry
        (ap (λ (a : Plan). slice_get a.guests p.guest) is.plan_is ∙ named) in
        record { ended = made.0; run = made.1 }

-- ---- as its pass is taken back

module _ (k : Key) (plan : Plan) (modules : List Module) (l : Ledger) (is : IsLedger k plan modules l) (p : PassView)
    (r : Raw) (was : IsRunner k plan modules p r) (stopped : r.base.stop ≢ None) where
  -- the guest is one of the plan
  entry_at : (d : List ℕ) → slice_get plan.guests p.guest ≡ Some (get_or plan.guests p.guest d)
  entry_at d =
      let opened = was.is.path.opened in
      let there : slice_get plan.guests p.guest ≡ Some opened.entry =
      ap (λ (a : Plan). slice_get a.guests p.guest) (sym was.is.settled.ledger.plan_is) ∙ opened.entry_is in
      there ∙ ap (λ (e : List ℕ). Some e) (sym (get_or_from_slice_get plan.guests p.guest opened.entry d there))

  module _ (q : PassView) (g : Raw) (number : ℕ) (a : Plan) (guests : List (List ℕ)) (item name : List ℕ)
      (part : GuestPart) (guest_is : g ≡ r) (pass_is : q ≡ p) (number_is : number ≡ q.guest) (plan_is : a ≡ plan)
      (guests_are : guests ≡ a.guests) (item_is : item ≡ get_or guests number item) (name_is : name ≡ item)
      (says : part ≡ part_of number name g) where
    same : number ≡ p.guest
    same = number_is ∙ ap (λ (v : PassView). v.guest) pass_is

    named : slice_get plan.guests p.guest ≡ Some item
    named =
        entry_at item
        ∙ ap (λ (e : List ℕ). Some e) (sym (item_is
        ∙ ap (λ (xs : List (List ℕ)). get_or xs number item) (guests_are ∙ ap (λ (x : Plan). x.guests) plan_is)
        ∙ ap (λ (n : ℕ). get_or plan.guests n item) same))

    whole : part ≡ part_of p.guest item r
    whole =
        says ∙ ap (λ (z : (ℕ × List ℕ) × Raw). part_of z.0.0 z.0.1 z.1) (λ i. ((same i, name_is i), guest_is i))

    pub said_back : (slip : SlipView) → part ≡ part_by plan (record { guest = r; pass = p; slip = slip })
    said_back slip =
        whole
        ∙ ap (λ (e : List ℕ). part_of p.guest e r) (sym (get_or_from_slice_get plan.guests p.guest item [] named))

    pub taken_back : AgreesWith k l.keeping.entries l.keeping.refusals q.sight → IsPartAt k l p.guest part
    taken_back agrees =
        subst (IsPartAt k l p.guest) (sym whole)
        (runner_part k plan modules l is p r was
        (subst (λ (v : PassView). AgreesWith k l.keeping.entries l.keeping.refusals v.sight) pass_is agrees) stopped
        item named)

-- ---- as its slip is taken back

-- it has said what the journal tells in the guest's name
pub told_back : (p : PassView) (r : Raw) (slip s : SlipView) (journal : List Entry) (number : ℕ) (name : List ℕ)
    (g : Raw) (part : GuestPart) → IsSlipOf p r slip → s ≡ slip → g ≡ r → part ≡ part_of number name g
    → s.lines ≡ lines_of s.guest journal → AreAnswered part.log (lines_of p.guest journal)
told_back p r slip s journal number name g part is slip_is guest_is says told =
    subst (λ (z : List Log × List JournalLine). AreAnswered z.0 z.1)
    (λ i. (
      sym (ap (λ (x : GuestPart). x.log) says ∙ ap (λ (x : Raw). x.base.log) guest_is) i,
      (ap (λ (x : SlipView). x.lines) (sym slip_is) ∙ told
          ∙ ap (λ (n : ℕ). lines_of n journal) (ap (λ (x : SlipView). x.guest) slip_is ∙ is.guest)) i,
    )) is.answered

pub slip_seat : (p q : PassView) (r : Raw) (slip s : SlipView) → IsSlipOf p r slip → s ≡ slip → q ≡ p
    → s.guest ≡ q.guest
slip_seat p q r slip s is slip_is pass_is =
    ap (λ (x : SlipView). x.guest) slip_is ∙ is.guest ∙ ap (λ (x : PassView). x.guest) (sym pass_is)
