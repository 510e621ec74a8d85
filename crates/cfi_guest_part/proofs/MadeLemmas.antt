-- A guest that has run, and has stopped, has a valid part.
use Rattle.std.proofs.Common.{◌≡◌, ◌≢◌, ℕ, ◌+◌, List, Some, None, slice_get, length, refl, sym, ◌∙◌, subst, arith, inl}
use Rattle.cfi_model.specs.Came.{takes_in}
use Rattle.cfi_model.specs.Fits.{Along}
use Rattle.cfi_model.specs.History.{History, IsStart}
use Rattle.cfi_model.specs.Log.{pick_entries}
use Rattle.cfi_model.specs.Raw.{Raw, raw_opened}
use Rattle.cfi_model.specs.Run.{run_of}
use Rattle.cfi_model.specs.Shows.{IsShown}
use Rattle.cfi_model.specs.State.{State, opened}
use Rattle.cfi_model.specs.Words.{Tables}
use Rattle.cfi_model.proofs.FixedLemmas.{opened_ready}
use Rattle.cfi_report.specs.declared.report.GuestPart.{GuestPart}
use Rattle.cfi_unit.specs.declared.fill.Fill.{Fill}
use Rattle.cfi_unit.specs.declared.log.Log.{Log}
use Rattle.cfi_unit.specs.declared.log.Stop.TheVariants as stops
use Rattle.cfi_valid.specs.Course.{Course}
use Rattle.cfi_valid.specs.FromLaw.{HasPolicies}
use Rattle.cfi_valid.specs.Guests.{GuestBegins}
use Rattle.cfi_valid.specs.Journal.{members_of}
use Rattle.cfi_valid.specs.Loaded.{Members, Filled, start_fills}
use Rattle.cfi_valid.specs.Log.{IsLogged}
use Rattle.cfi_valid.specs.Parts.{ComesTo}
use Rattle.cfi_valid.specs.Replay.{Replays}
use Rattle.cfi_valid.specs.Valid.{IsEnded}
use Rattle.cfi_guest_part.specs.Part.{IsEndOf, IsWithin, part_of}
use Rattle.cfi_guest_part.specs.Ran.{AreBrought, HasRun, IsHistoryOf, IsRunOf}
use Rattle.cfi_guest_part.proofs.EndLemmas.{IsShownAs, shown_as, steps_of}
use Rattle.cfi_guest_part.proofs.RanLemmas.{HasCome, comes}
use Rattle.cfi_guest_part.proofs.StepsLemmas.{replay_unspent}

some_same : (a b : List ℕ) → Some a ≡ Some b → a ≡ b
some_same a b e = cc

module _ (c : Course) (t : Tables) (h : History) (code : List ℕ) (of : IsHistoryOf c t h code) (number : ℕ) (guest : Raw)
    (run : HasRun c t h code number guest) (stopped : guest.base.stop ≢ None) (within : IsWithin c.plan.fuel guest)
    (logged : IsLogged c number guest.base.log) (entry : List ℕ) (named : slice_get c.plan.guests number ≡ Some entry)
  where
    abbrev members : Members
    members = members_of c.end

    abbrev address : ℕ
    address = run.opened.address

    abbrev fills : List Fill
    fills = start_fills Filled members

    abbrev start : Raw
    start = raw_opened number address fills

    abbrev part : GuestPart
    part = part_of number entry guest

    policies : HasPolicies (length code) members h
    policies = subst (λ (n : ℕ). HasPolicies n members h) (sym of.is_code.len) of.policies

    starts : IsStart h address
    starts = subst (λ (r : Raw). IsStart h r.base.pc) run.opened.is run.starts

    -- the policy machine has come as far as the guest
    come : HasCome h code members of.known policies start.base 0 start.base start (takes_in run.came)
    come =
        let ready = opened_ready h number address fills starts in
        comes h code members of.known policies start.base (takes_in run.came) 0 start.base start (inl ready) ready.0
        (subst (λ (r : Raw). Along h code r (takes_in run.came)) run.opened.is run.along)
        (subst (λ (r : Raw). AreBrought members r (takes_in run.came)) run.opened.is run.brings) refl

    abbrev s : State
    s = come.new

    unspent : s.stop ≢ Some stops.Fuel
    unspent = replay_unspent Filled code members s.log s.units (opened number address fills) s come.replayed refl

    one_epoch : c.end.epoch ≡ c.plan.first → h.count + h.ahead ≡ 1
    one_epoch same = omega (arith, same, of.first, of.force, of.ahead)

    abbrev picked : pick_entries s.log ≡ 0 → come.settled ≡ 0
    picked none = come.shown.picked none

    abbrev single : h.count + h.ahead ≡ 1 → come.settled ≡ 0
    single one = come.shown.single one

    ends : IsEndOf (run_of start (takes_in run.came)) guest
    ends = subst (λ (r : Raw). IsEndOf (run_of r (takes_in run.came)) guest) run.opened.is run.ends

    shown : IsShownAs h code of.known come.settled s come.shown.ready picked single unspent guest
    shown =
        shown_as h code of.known come.settled s come.shown.ready picked single unspent (run_of start (takes_in run.came)) guest
        come.shown.shows ends

    -- where the part's guest begins
    begins : GuestBegins c.plan c.end.loaded entry address
    begins =
        subst (λ (e : List ℕ). GuestBegins c.plan c.end.loaded e address)
        (some_same run.opened.entry entry (sym run.opened.entry_is ∙ named)) run.opened.begins

    abbrev come_to : ComesTo Filled c part s
    come_to = record {
      address = address;
      begins = begins;
      code = code;
      is_code = of.is_code;
      replay = subst
          (λ (log : List Log). Replays Filled code members log guest.base.units (opened number address fills) s)
          (sym shown.log)
          (subst (λ (n : ℕ). Replays Filled code members s.log n (opened number address fills) s) (sym shown.units)
          come.replayed);
    }

    ended : IsEnded c number part
    ended = record {
      guest = record { is = refl; entry = named; begins = (address, begins) };
      replay = record {
        stopped = stopped;
        replay = record {
          last = s;
          comes = come_to;
          output = sym shown.out;
          log = sym shown.log;
          stop = shown.stop;
        };
      };
      log = logged;
      steps = record {
        fits = record {
          last = s;
          comes = come_to;
          counts = steps_of h code of.known come.settled s come.shown.ready picked single unspent c.plan.fuel number
              entry guest shown within;
        };
        single = λ same. shown.steps.single_only (one_epoch same);
      };
    }

    told : IsRunOf c t h code number part
    told = record {
      guest = guest;
      told = refl;
      run = run;
      retries = come.settled;
      state = s;
      shown = subst (λ (r : Raw). IsShown h code 0 r.base r (takes_in run.came) come.settled s) (sym run.opened.is) come.shown;
    }

    pub part_made : IsEnded c number part × IsRunOf c t h code number part
    part_made = (ended, told)
