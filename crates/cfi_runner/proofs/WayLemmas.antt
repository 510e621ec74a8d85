-- A guest on its way over what its pass loads.
use Rattle.std.proofs.Common.{◌≡◌, ◌≤◌, ◌≢◌, ℕ, ◌+◌, ◌-◌, ◌/◌, ◌<◌, Some, None, List, [], ◌∷◌, ◌++◌, append_assoc, append-nil, slice_index, refl, sym, ap, subst, ◌∙◌, arith, inl, inr}
use Rattle.std.proofs.lemmas.Bool.{cases_lt}
use Rattle.std.proofs.lemmas.List.{get_or_past}
use Rattle.rv_insn.specs.InsnOf.{insn_of}
use Rattle.cfi_word.specs.Table.{slots_of, code_word, tary_word, bary_word}
use Rattle.cfi_word.specs.Table as places
use Rattle.cfi_model.specs.declared.history.Access.{Access}
use Rattle.cfi_model.specs.Accesses.{KeepsLast}
use Rattle.cfi_model.specs.Begin.{HasStepBy, begin_as, begin_by, begin_of, act_by, act_of}
use Rattle.cfi_model.specs.Fits.{Fits, FitsWord, Along}
use Rattle.cfi_model.specs.History.{History}
use Rattle.cfi_model.specs.Log.{last_policy}
use Rattle.cfi_model.specs.Raw.{Raw}
use Rattle.cfi_model.specs.Run.{Word, take_word, take_one, run_of}
use Rattle.cfi_model.specs.Shows.{IsBetween, IsReady, IsShown, ends_along}
use Rattle.cfi_model.specs.State.{State}
use Rattle.cfi_model.proofs.AfterLemmas.{begin_counts}
use Rattle.cfi_model.proofs.BeginLemmas.{begin_keeps_bary}
use Rattle.cfi_model.proofs.GrowLemmas.{no_step}
use Rattle.cfi_model.proofs.ShownLemmas.{raw_shows, shown_log}
use Rattle.cfi_model.proofs.SnocLemmas.{along_snoc}
use Rattle.cfi_model.proofs.StuckLemmas.{raw_has_steps}
use Rattle.cfi_tables.specs.Fair.{kept_of}
use Rattle.cfi_tables.specs.Key.{Key}
use Rattle.cfi_tables.specs.Loads.{IsFetch, access_of}
use Rattle.cfi_tables.specs.Views.{last_moment}
use Rattle.cfi_tables.specs.declared.view.PassView.{PassView}
use Rattle.cfi_tables.specs.declared.view.Sight.{Sight}
use Rattle.cfi_tables.proofs.FairLemmas.{kept_snoc}
use Rattle.cfi_runner.specs.Seen.{history_seen, code_seen, policy_seen, IsSight, SeesMore}
use Rattle.cfi_model.specs.Came.{AsksFor}
use Rattle.cfi_runner.specs.Run.{CanRunOn, HasTaken, KeepsSeat, words_found}
use Rattle.cfi_runner.proofs.ActLemmas.{Tells, act_tells}
use Rattle.cfi_runner.proofs.PickedLemmas.{LogsTo, logs_start, logs_begun}
use Rattle.cfi_runner.proofs.SeenLemmas.{sees_same, sees_trans, seen_history, code_many, policy_most, policy_later, code_later, start_later}
use Rattle.cfi_runner.proofs.WordLemmas.{words_snoc, run_word, asked_append, no_replies, runs_low}
use Rattle.cfi_runner.proofs.NeedLemmas.{MayNeed, shown_needs, insn_is}

-- a guest on its way: it has taken the words of its pass, as far as this has come
pub record IsOnWay (k : Key) (p : PassView) (old : Raw) (q : PassView) (now : Raw) : Type 0 where
  pub taken : HasTaken k p q old now
  pub keeps : KeepsSeat k p q
  pub kept : KeepsLast now (kept_of k q.sight.accesses)
  pub logs : LogsTo (policy_seen k p.sight) old.base.log now

-- and waits for nothing
pub record IsUnderWay (k : Key) (p : PassView) (old : Raw) (q : PassView) (now : Raw) : Type 0 where
  pub way : IsOnWay k p old q now
  pub idle : now.waits ≡ None
  pub going : now.base.stop ≡ None

module _ (k : Key) (fuel : ℕ) (p : PassView) (old : Raw) (can : CanRunOn k fuel p old) where
  pub starts : IsUnderWay k p old p old
  starts = record {
    way = record {
      taken = record {
        accesses = [];
        appended = sym (append-nil p.sight.accesses);
        asked = tt;
        is = refl;
        along = λ later more. tt;
      };
      keeps = record {
        guest = refl;
        quiet = refl;
        parked = refl;
        refusals = refl;
        sees = sees_same k p.sight can.sight;
      };
      kept = λ word e. absurd (none_some word (sym can.fresh.0 ∙ e));
      logs = logs_start (policy_seen k p.sight) old can.fresh.1;
    };
    idle = can.idle;
    going = can.going;
  }
    where
      none_some : (word : ℕ) → None ≡ Some word → ⊥
      none_some word e = absurd (cc)

  pub between : IsBetween 0 old.base old
  between =
      let same : old.base.steps ≡ old.base.steps + 0 = omega arith in
      record {
        base = ap (λ s. record old.base { steps = s }) same;
        idle = can.idle;
        fresh = λ going. (refl, can.fresh.0, can.fresh.1);
      }

  pub ready_in : (later : Sight) → SeesMore k p.sight later → IsReady (history_seen k later) old.base
  ready_in later more = record {
    zero_is = can.ready.zero_is;
    start = λ going. start_later k p.sight later can.sight more old.base.pc (can.ready.start going);
  }

  -- what was taken shows the policy machine, over whatever the pass has seen later
  pub shown_in : (later : Sight) → SeesMore k p.sight later → (accesses : List Access)
      → Along (history_seen k later) (code_seen k later) old (words_found accesses)
      → (settled : ℕ) × (state : State) × IsShown (history_seen k later) (code_seen k later) 0 old.base old
      (words_found accesses) settled state
  shown_in later more accesses along =
      raw_shows (history_seen k later) (code_seen k later) (seen_history k later more.is) old.base (ready_in later more)
      0 old between (words_found accesses) along

  module _ (q : PassView) (now : Raw) (way : IsOnWay k p old q now) where
    abbrev h : History
    h = history_seen k q.sight

    abbrev code : List ℕ
    code = code_seen k q.sight

    abbrev taken : HasTaken k p q old now
    taken = way.taken

    is_sight : IsSight k q.sight
    is_sight = way.keeps.sees.is

    pub along_now : Along h code old (words_found taken.accesses)
    along_now = taken.along q.sight (sees_same k q.sight is_sight)

    pub shown : (settled : ℕ) × (state : State) × IsShown h code 0 old.base old (words_found taken.accesses) settled state
    shown = shown_in q.sight way.keeps.sees taken.accesses along_now

    -- the guest has logged no policy above the latest one
    pub low : last_policy now.base.log ≤ policy_seen k q.sight
    low =
        let s = shown.2 in
        let there = runs_low h code (policy_seen k q.sight) (policy_most k q.sight is_sight)
        (ends_along old (words_found taken.accesses)) old.base shown.1 (no_replies taken.accesses old) s.runs
        (let up = policy_later k p.sight q.sight can.sight way.keeps.sees in omega (arith, can.logged, up)) in
        subst (λ l. last_policy l ≤ policy_seen k q.sight)
        (sym (ap (λ r. r.base.log) taken.is ∙ shown_log h code shown.0 shown.1 _ s.shows)) there

    pub needs : MayNeed k.code_words now.waits
    needs =
        subst (λ r. MayNeed k.code_words r.waits) (sym taken.is)
        (subst (λ n. MayNeed n (run_of old (words_found taken.accesses)).waits) (code_many k q.sight is_sight)
        (shown_needs h code shown.0 shown.1 _ shown.2.shows))

    -- one access more: it is asked for, and fits whatever history the pass sees later
    pub takes_more : (new : PassView) (access : Access)
        → new.sight.accesses ≡ q.sight.accesses ++ access ∷ [] → SeesMore k q.sight new.sight
        → AsksFor k.code_words now.waits now access.word
        → ((later : Sight) → SeesMore k new.sight later
        → Fits (history_seen k later) (code_seen k later) now (Word access.found))
        → HasTaken k p new old (take_one now (Word access.found))
    takes_more new access appended more asks fits =
        let there = run_of old (words_found taken.accesses) in record {
          accesses = taken.accesses ++ access ∷ [];
          appended = appended
              ∙ (ap (λ l. l ++ access ∷ []) taken.appended
              ∙ append_assoc p.sight.accesses taken.accesses (access ∷ []));
          asked = asked_append k.code_words taken.accesses (access ∷ []) old taken.asked
              (subst (λ r. AsksFor k.code_words r.waits r access.word) taken.is asks, tt);
          is = ap (λ r. take_one r (Word access.found)) taken.is ∙ sym (run_word taken.accesses access old);
          along = λ later sees.
              subst (Along (history_seen k later) (code_seen k later) old) (sym (words_snoc taken.accesses access))
              (along_snoc (history_seen k later) (code_seen k later) (words_found taken.accesses) (Word access.found) old
              (taken.along later (sees_trans k q.sight new.sight later more sees))
              (subst (λ r. Fits (history_seen k later) (code_seen k later) r (Word access.found)) taken.is
              (fits later sees)));
        }

  -- ---- a fetch

  module _ (q : PassView) (now : Raw) (u : IsUnderWay k p old q now) where
    abbrev here : ℕ
    here = now.base.pc / 4

    fits_code : Fits (h q now u.way) (code q now u.way) now (Word (slice_index (code q now u.way) here))
    fits_code =
        subst (λ w. FitsWord (h q now u.way) (code q now u.way) w now (slice_index (code q now u.way) here))
        (sym u.idle) (u.going, refl)

    has_code : HasStepBy (insn_of (slice_index (code q now u.way) here)) now
    has_code =
        let taken = u.way.taken in
        let word : ℕ = slice_index (code q now u.way) here in
        subst (HasStepBy (insn_of word)) (sym taken.is)
        (raw_has_steps (h q now u.way) (code q now u.way) (seen_history k q.sight u.way.keeps.sees.is) old.base
        (ready_in q.sight u.way.keeps.sees) 0 old between (words_found taken.accesses) (along_now q now u.way)
        (subst (λ r. r.waits ≡ None) taken.is u.idle) word
        (subst (λ r. Fits (h q now u.way) (code q now u.way) r (Word word)) taken.is fits_code))

    some_code : slice_index (code q now u.way) here ≢ 0
    some_code = no_step now (slice_index (code q now u.way) here) has_code

    -- the guest's place is one of the code
    pub place_within : here < k.code_words
    place_within = elim (cases_lt here k.code_words) [
      | inl within ↦ within
      | inr past ↦
          absurd (some_code (get_or_past (code q now u.way) here 0
          (let many = code_many k q.sight u.way.keeps.sees.is in omega (arith, past, many))))
    ]

    -- the instruction that was fetched has begun
    pub record HasBegun (new : PassView) (word : ℕ) : Type 0 where
      pub way : IsOnWay k p old new (begin_of now word)
      pub steps : (begin_of now word).base.steps ≡ now.base.steps + 1
      pub tells : Tells (act_of now word) (begin_of now word)

    module _ (new : PassView) (word : ℕ) (fetch : IsFetch k here word q new) where
      -- it is the code's, and that of all code which is seen later
      code_is : word ≡ slice_index (code q now u.way) here
      code_is =
          let s = u.way.keeps.sees.is in
          fetch.code (q.sight.latest - k.first) (omega (arith, s.least, s.most)) some_code

      sight_is : new.sight
          ≡ record q.sight { accesses = new.sight.accesses; had = new.sight.had; stored = new.sight.stored }
      sight_is = ap (λ (v : PassView). v.sight) fetch.is

      sees : SeesMore k q.sight new.sight
      sees =
          let same = sees_same k q.sight u.way.keeps.sees.is in
          subst (SeesMore k q.sight) (sym sight_is) (record {
            entries = same.entries;
            latest = same.latest;
            is = record { tables = same.is.tables; least = same.is.least; most = same.is.most };
          })

      taken_code : HasTaken k p new old (begin_of now word)
      taken_code =
          subst (HasTaken k p new old) (ap (λ w. take_word w now word) u.idle)
          (takes_more q now u.way new (access_of k.code_words (places.Code here) word (last_moment k new.sight))
          fetch.now.accesses sees
          (subst (λ w. AsksFor k.code_words w now (code_word here)) (sym u.idle) refl)
          (λ later more.
          subst (λ w. FitsWord (history_seen k later) (code_seen k later) w now word) (sym u.idle) (
            u.going,
            code_is
                ∙ sym (code_later k q.sight later u.way.keeps.sees.is (sees_trans k q.sight new.sight later sees more) here
                some_code),
          )))

      pub begins : HasBegun new word
      begins =
          let has : HasStepBy (insn_of word) now = subst (λ w. HasStepBy (insn_of w) now) (sym code_is) has_code in
          let found = insn_is (insn_of word) word now refl has in
          let new_is : begin_of now word ≡ begin_as found.0 now = ap (λ o. begin_by o now) found.1 in
          let act = ap (λ o. act_by o now) found.1 in
          let keeps = u.way.keeps in
          record {
            way = record {
              taken = taken_code;
              keeps = record {
                guest = ap (λ (v : PassView). v.guest) fetch.is ∙ keeps.guest;
                quiet = ap (λ (v : PassView). v.quiet) fetch.is ∙ keeps.quiet;
                parked = ap (λ (v : PassView). v.parked) fetch.is ∙ keeps.parked;
                refusals = ap (λ (v : PassView). v.sight.refusals) fetch.is ∙ keeps.refusals;
                sees = sees_trans k p.sight q.sight new.sight keeps.sees sees;
              };
              kept = λ kept e.
                  ap (kept_of k) fetch.now.accesses
                  ∙ (kept_snoc k q.sight.accesses (places.Code here) word (last_moment k new.sight) place_within tt
                  ∙ u.way.kept kept (begin_keeps_bary now (insn_of word) kept e));
              logs = logs_begun (policy_seen k p.sight) old.base.log now u.way.logs (insn_of word);
            };
            steps = begin_counts now (insn_of word) has;
            tells = subst (λ a. Tells a (begin_of now word)) (sym act)
                (subst (Tells _) (sym new_is) (act_tells found.0 now u.idle u.going found.2));
          }

  -- by the guest's address
  pub begins_at : (q : PassView) (now : Raw) (u : IsUnderWay k p old q now) (pc : ℕ) → pc ≡ now.base.pc
      → (new : PassView) (word : ℕ) → IsFetch k (pc / 4) word q new → HasBegun q now u new word
  begins_at q now u pc is new word fetch =
      begins q now u new word (subst (λ n. IsFetch k (n / 4) word q new) is fetch)
