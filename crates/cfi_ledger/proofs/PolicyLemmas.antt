-- The policies of the loaded modules, and where guests begin, line by line of a journal.
use Rattle.std.proofs.Common.{◌≡◌, ◌≢◌, ℕ, ◌+◌, ◌*◌, ◌<◌, ◌≤◌, ◌==◌, ◌++◌, true, List, [], ◌∷◌, length, get_or, map, All, AllPairs, Some, refl, sym, ap, subst, ◌∙◌, arith, length-append}
use Rattle.std.specs.Prelude.{nat_le, not, filter}
use Rattle.std.specs.List.{AllByRecursion, Contains, list_any, slice_get}
use Rattle.std.proofs.lemmas.Bool.{lt-leb}
use Rattle.std.proofs.lemmas.List.{get_or-map, length-map}
use Rattle.std.proofs.lemmas.List.Elements.{All-contains, All-from_recursion, All-nil, All-push, All-weaker, Contains-append_left, Contains-get_or, filter_passes, recursion_from_All}
use Rattle.std.proofs.lemmas.List.Quantifiers.{all_pairs_push}
use Rattle.cfi_aux.specs.declared.modules.Module.{Module}
use Rattle.cfi_aux.specs.declared.placed.Placed.{Placed}
use Rattle.cfi_graph.proofs.BoundLemmas.{contains_at}
use Rattle.cfi_plan.specs.declared.journal.Entry.{Entry}
use Rattle.cfi_plan.specs.declared.journal.JournalLine.{JournalLine}
use Rattle.cfi_plan.specs.Draft.{starts}
use Rattle.cfi_plan.specs.declared.plan.Plan.{Plan}
use Rattle.cfi_valid.specs.Growth.{AreUpTo, IsLater}
use Rattle.cfi_valid.specs.Journal.{JournalState, members_of, live_in, with_loaded, with_retired, IsOpeningState, LineLeads, EntriesLead, IsJournal}
use Rattle.cfi_valid.specs.Loaded.{LoadedModule, IsLoaded, loaded_by}
use Rattle.cfi_valid.specs.Retiring.{IsLiveAt}
use Rattle.cfi_valid.specs.declared.limits.TheConstants.{MAX_LOADED}
use Rattle.cfi_valid.specs.declared.retirement.Retirement.{Retirement}
use Rattle.cfi_valid.proofs.GrowthLemmas.{loaded_stays}
use Rattle.cfi_valid.proofs.GuestLemmas.{guest_begins_later}
use Rattle.cfi_valid.proofs.LineLemmas.{line_does}
use Rattle.cfi_valid.proofs.LiveLemmas.{opening_up_to, tested_append}
use Rattle.cfi_word.specs.declared.limits.TheConstants.{MAX_POLICY, MAX_STARTS}
use Rattle.cfi_ledger.specs.Entries.{HaveEntries}
use Rattle.cfi_ledger.specs.Policies.{HavePolicies}
use Rattle.cfi_ledger.proofs.EntryLemmas.{loaded_all}
use Rattle.cfi_ledger.proofs.MemberLemmas.{stays, live_stay, live_more, live_less}
use Rattle.cfi_ledger.proofs.StartLemmas.{starts_count, starts_apart}

abbrev Came : (policy : ℕ) → LoadedModule → Type 0
Came policy l = l.policy ≤ policy

abbrev Went : (policy : ℕ) → Retirement → Type 0
Went policy r = r.policy ≤ policy

module _ (plan : Plan) (s : JournalState) (have : HavePolicies plan s) where
  -- no module came with a policy above the one in force, and none was retired with one
  pub policies_below : All (λ (l : LoadedModule). l.policy ≤ s.policy) s.loaded
  policies_below = All-from_recursion (Came s.policy) s.loaded have.upto.loaded

  retired_below : All (Went s.policy) s.retired
  retired_below = All-from_recursion (Went s.policy) s.retired have.upto.retired

  -- there are few policies, and one is left
  pub policies_few : s.policy ≤ 2 * MAX_LOADED
  policies_few = omega (arith, have.count, have.live, have.most)

  pub policies_left : s.policy < MAX_POLICY
  policies_left = omega (arith, policies_few)

  -- another epoch changes nothing
  pub policies_same : (epoch : ℕ) → HavePolicies plan (record s { epoch = epoch })
  policies_same epoch = record {
    count = have.count;
    starts = have.starts;
    rises = have.rises;
    upto = record { loaded = have.upto.loaded; retired = have.upto.retired };
    once = have.once;
    known = have.known;
    live = have.live;
    most = have.most;
  }

  -- the number of a live module was not retired
  pub live_number : (number : ℕ) → IsLiveAt s.policy (members_of s) number
      → not (list_any (λ (r : Retirement). r.number == number) s.retired) ≡ true
  live_number number live =
      let there = subst (λ (ls : List LoadedModule). Contains ls live.0) (live_stay s have.upto) live.1 in
      ap (λ (n : ℕ). not (list_any (λ (r : Retirement). r.number == n) s.retired)) (sym live.2)
      ∙ All-contains (λ (l : LoadedModule). stays s.retired l ≡ true) (filter (stays s.retired) s.loaded) live.0
      (filter_passes (stays s.retired) s.loaded) there

  module _ (number epoch policy : ℕ) (next : policy ≡ s.policy + 1) where
    retired_next : AllByRecursion (Went policy) s.retired
    retired_next =
        recursion_from_All (Went policy) s.retired
        (All-weaker (Went s.policy) (Went policy) (λ r most. omega (arith, most, next)) s.retired retired_below)

    loaded_next : All (Came policy) s.loaded
    loaded_next =
        All-weaker (Came s.policy) (Came policy) (λ l most. omega (arith, most, next)) s.loaded policies_below

    -- a module more
    pub more_upto : (placed : Placed) → AreUpTo (with_loaded number epoch policy placed s)
    more_upto placed =
        let one : LoadedModule = record { number = number; placed = placed; policy = policy } in
        record {
          loaded = recursion_from_All (Came policy) (s.loaded ++ one ∷ [])
              (All-push (Came policy) s.loaded one loaded_next (omega arith));
          retired = retired_next;
        }

    -- which was not loaded
    module _ (placed : Placed) (absent : ¬ IsLoaded s.loaded number) (room : length s.loaded < MAX_LOADED) where
      abbrev one : LoadedModule
      one = record { number = number; placed = placed; policy = policy }

      abbrev more : JournalState
      more = with_loaded number epoch policy placed s

      more_live : length (live_in more) ≡ length (live_in s) + 1
      more_live =
          omega (
            arith,
            ap (λ (ls : List LoadedModule). length ls) (live_stay more (more_upto placed)),
            ap (λ (ls : List LoadedModule). length ls) (live_more s.loaded s.retired have.known one absent),
            ap (λ (ls : List LoadedModule). length ls) (live_stay s have.upto),
            length-append (filter (stays s.retired) s.loaded) (one ∷ []),
          )

      pub policies_more : HavePolicies plan more
      policies_more =
          let longer = length-append s.loaded (one ∷ []) in
          record {
            count = omega (arith, longer, have.count, next);
            starts = ap (λ (ls : List LoadedModule). length ls)
                (tested_append (λ (l : LoadedModule). nat_le l.policy 0) 0 (λ l past. lt-leb l.policy 0 past) s.loaded
                (one ∷ []) (omega (arith, next), tt))
                ∙ have.starts;
            rises = all_pairs_push (λ (a b : LoadedModule). a.policy ≤ b.policy) s.loaded one have.rises
                (λ k d within. omega (arith, policies_below k d within, next));
            upto = more_upto placed;
            once = all_pairs_push (λ (a b : LoadedModule). a.number ≢ b.number) s.loaded one have.once
                (λ k d within same. absent (get_or s.loaded k d, Contains-get_or s.loaded k d within, same));
            known = All-weaker (λ (r : Retirement). IsLoaded s.loaded r.number)
                (λ (r : Retirement). IsLoaded (s.loaded ++ one ∷ []) r.number)
                (λ r has. (has.0, Contains-append_left s.loaded (one ∷ []) has.0 has.1, has.2)) s.retired have.known;
            live = omega (arith, more_live, have.live, longer);
            most = omega (arith, longer, room);
          }

    -- one fewer live
    abbrev gone : Retirement
    gone = record { number = number; policy = policy }

    abbrev less : JournalState
    less = with_retired number epoch policy s

    pub less_upto : AreUpTo less
    less_upto = record {
      loaded = recursion_from_All (Came policy) s.loaded loaded_next;
      retired = recursion_from_All (Went policy) (s.retired ++ gone ∷ [])
          (All-push (Went policy) s.retired gone (All-from_recursion (Went policy) s.retired retired_next)
          (omega arith));
    }

    -- which was
    module _ (place : ℕ) (l : LoadedModule) (is : slice_get s.loaded place ≡ Some l) (number_is : l.number ≡ number)
        (live : IsLiveAt s.policy (members_of s) number) where
      less_live : length (live_in less) + 1 ≡ length (live_in s)
      less_live =
          let was : stays s.retired l ≡ true =
          ap (λ (n : ℕ). not (list_any (λ (r : Retirement). r.number == n) s.retired)) number_is
          ∙ live_number number live in
          omega (
            arith,
            ap (λ (ls : List LoadedModule). length ls) (live_stay less less_upto),
            live_less s.loaded s.retired have.once place l is gone (sym number_is) was,
            ap (λ (ls : List LoadedModule). length ls) (live_stay s have.upto),
          )

      pub policies_less : HavePolicies plan less
      policies_less =
          let longer = length-append s.retired (gone ∷ []) in
          record {
            count = omega (arith, longer, have.count, next);
            starts = have.starts;
            rises = have.rises;
            upto = less_upto;
            once = have.once;
            known = All-push (λ (r : Retirement). IsLoaded s.loaded r.number) s.retired gone have.known
                (l, contains_at s.loaded place l is, number_is);
            live = omega (arith, less_live, have.live, longer);
            most = have.most;
          }

-- ---- entries

pub entries_stay : (plan : Plan) (old new : JournalState) → IsLater old new → HaveEntries plan old.loaded
    → HaveEntries plan new.loaded
entries_stay plan old new later have = λ guest entry is.
    let found = have guest entry is in (
      found.0,
      guest_begins_later plan old.loaded new.loaded (loaded_stays old new later 0 (omega arith)) entry found.0
          found.1,
    )

-- ---- along a journal

module _ (plan : Plan) (modules : List Module) where
  -- no start module has the number of another
  opening_once : (s : JournalState) → IsOpeningState plan modules s
      → AllPairs (λ (a b : LoadedModule). a.number ≢ b.number) s.loaded
  opening_once s opens = λ i j d less within same.
      let number_of : LoadedModule → ℕ = λ l. l.number in
      let numbers : AllPairs ◌<◌ (map number_of s.loaded) =
      subst (AllPairs ◌<◌) (sym opens.starts) (starts_apart 0 plan.modules) in
      let apart = numbers i j d.number less (omega (arith, within, length-map s.loaded number_of)) in
      omega (
        arith,
        apart,
        same,
        get_or-map number_of s.loaded i d d.number (omega (arith, less, within)),
        get_or-map number_of s.loaded j d d.number within,
      )

  pub opening_policies : (s : JournalState) → IsOpeningState plan modules s → starts plan.modules ≤ MAX_STARTS
      → HavePolicies plan s
  opening_policies s opens few =
      let upto = opening_up_to plan modules s opens in
      let many : length s.loaded ≡ starts plan.modules =
      sym (length-map s.loaded (λ (l : LoadedModule). l.number))
      ∙ ap (λ (xs : List ℕ). length xs) opens.starts ∙ starts_count 0 plan.modules in
      let none : length s.retired ≡ 0 = ap (λ (rs : List Retirement). length rs) opens.stay in
      let first : loaded_by 0 s.loaded ≡ s.loaded =
      loaded_all 0 s.loaded (λ at d within. omega (arith, opens.policies at d within)) in
      let all : filter (stays s.retired) s.loaded ≡ s.loaded =
      ap (λ (rs : List Retirement). filter (stays rs) s.loaded) opens.stay ∙ every s.loaded in
      record {
        count = omega (arith, many, opens.policy, none);
        starts = ap (λ (ls : List LoadedModule). length ls) first ∙ many;
        rises = λ i j d less within.
            omega (arith, opens.policies i d (omega (arith, less, within)), opens.policies j d within);
        upto = upto;
        once = opening_once s opens;
        known = subst (All (λ (r : Retirement). IsLoaded s.loaded r.number)) (sym opens.stay)
            (All-nil (λ (r : Retirement). IsLoaded s.loaded r.number));
        live = omega (arith, none, ap (λ (ls : List LoadedModule). length ls) (live_stay s upto ∙ all));
        most = omega (arith, many, few);
      }
    where
      every : (loaded : List LoadedModule) → filter (stays []) loaded ≡ loaded
      every [] = refl
      every (l ∷ loaded) = ap (λ (ls : List LoadedModule). l ∷ ls) (every loaded)

  pub line_policies : (old : JournalState) (line : JournalLine) (new : JournalState) → HavePolicies plan old
      → LineLeads plan modules old line new → HavePolicies plan new
  line_policies old line new have leads =
      line_does plan modules old (λ more gone s. HavePolicies plan s) have
      (λ number epoch policy load.
      policies_more plan old have number epoch policy load.next load.clean.placed load.clean.absent.absent
      load.clean.absent.room)
      (λ number epoch policy retire.
      let its = retire.unused in
      policies_less plan old have number epoch policy retire.next its.place its.stands.0 its.stands.1 its.stands.2
      its.live)
      (λ epoch goes. policies_same plan old have epoch) line new leads

  entries_policies : (old : JournalState) (entries : List Entry) (new : JournalState) → HavePolicies plan old
      → EntriesLead plan modules old entries new → HavePolicies plan new
  entries_policies old [] new have leads = subst (HavePolicies plan) (sym leads) have
  entries_policies old (entry ∷ entries) new have leads =
      entries_policies leads.0 entries new (line_policies old entry.what leads.0 have leads.1.1) leads.2

  pub journal_policies : (journal : List Entry) (end : JournalState) → starts plan.modules ≤ MAX_STARTS
      → IsJournal plan modules journal end → HavePolicies plan end
  journal_policies journal end few is =
      entries_policies is.opening journal end (opening_policies is.opening is.opens few) is.leads
