-- What was found of modules stays true.
use Rattle.std.proofs.Common.{◌≡◌, ◌≢◌, ℕ, ◌<◌, ◌≤◌, List, length, replicate, get_or, Option, Some, None, refl, sym, ap, subst, ◌∙◌, ⊎_elim, arith}
use Rattle.std.specs.List.{slice_get}
use Rattle.std.specs.Prelude.{slice_set}
use Rattle.std.proofs.lemmas.Bool.{cases_lt}
use Rattle.std.proofs.lemmas.Grind.{get_or-set_at}
use Rattle.std.proofs.lemmas.List.{get_or-replicate, get_or-set_other, length-replicate, length-set}
use Rattle.std.proofs.lemmas.Option.{get_or_from_slice_get, slice_get-get_or, slice_get_within}
use Rattle.cfi_aux.specs.declared.modules.Module.{Module}
use Rattle.cfi_modules.specs.declared.fault.JoinFault.{JoinFault}
use Rattle.cfi_ledger.specs.declared.books.Books.{Books}
use Rattle.cfi_ledger.specs.declared.finding.Finding.{Finding}
use Rattle.cfi_ledger.specs.declared.finding.Outcome.{Outcome}
use Rattle.cfi_ledger.specs.Finding.{AreFindings, DoesJoin, IsFinding, JoinsBut, fault_by}
use Rattle.cfi_ledger.specs.Loads.{IsUnprepared}
use Rattle.cfi_unit.specs.declared.fill.Fill.{Fill}
use Rattle.cfi_ledger.specs.Roster.{Roster}

-- ---- findings

none_some : (f : Finding) → ◌≡◌ {A = Option Finding} None (Some f) → ⊥
none_some f is = cc

same_finding : (f g : Finding) → ◌≡◌ {A = Option Finding} (Some f) (Some g) → f ≡ g
same_finding f g is = cc

same_module : (m n : Module) → ◌≡◌ {A = Option Module} (Some m) (Some n) → m ≡ n
same_module m n is = cc

module _ (modules : List Module) (policy : ℕ) (r : Roster) where
  pub findings_none : AreFindings modules policy r (replicate (length modules) None)
  findings_none =
      let none : List (Option Finding) = replicate (length modules) None in
      let long : length none ≡ length modules = length-replicate (length modules) None in
      record {
        many = long;
        each = λ number f is.
            let within = slice_get_within none number (Some f) is in
            absurd (none_some f
            (sym (get_or-replicate (length modules) number None None (omega (arith, within, long)))
            ∙ get_or_from_slice_get none number (Some f) None is));
      }

  -- under a later policy, whatever is loaded and live then
  pub findings_later : (found : List (Option Finding)) → AreFindings modules policy r found → (later : ℕ)
      → policy < later → (new : Roster) → AreFindings modules later new found
  findings_later found are later above new = record {
    many = are.many;
    each = λ number f is.
        let old = are.each number f is in
        record {
          unplaced = old.unplaced;
          is = old.is;
          most = omega (arith, old.most, above);
          says = λ now. absurd (omega (arith, old.most, above, now));
        };
  }

  -- with other cells
  pub findings_filled : (found : List (Option Finding)) → AreFindings modules policy r found → (cells : List Fill)
      → AreFindings modules policy (record r { cells = cells }) found
  findings_filled found are cells = record {
    many = are.many;
    each = λ number f is.
        let old = are.each number f is in
        record { unplaced = old.unplaced; is = old.is; most = old.most; says = old.says };
  }

  -- with a finding more
  pub findings_set : (found : List (Option Finding)) → AreFindings modules policy r found → (number : ℕ) (f : Finding)
      → number < length found → IsFinding modules policy r number f
      → AreFindings modules policy r (slice_set found number (Some f))
  findings_set found are number f known is =
      let set : List (Option Finding) = slice_set found number (Some f) in
      record {
        many = length-set found number (Some f) ∙ are.many;
        each = λ other g there.
            let within : other < length found =
            omega (arith, slice_get_within set other (Some g) there, length-set found number (Some f)) in
            let now : get_or set other None ≡ Some g = get_or_from_slice_get set other (Some g) None there in
            let elsewhere : other ≢ number → IsFinding modules policy r other g = λ apart.
            are.each other g (slice_get-get_or found other None within
            ∙ ap Some (sym (get_or-set_other found number other (Some f) None apart) ∙ now)) in
            ⊎_elim
            (λ (below : other < number). elsewhere (λ same. absurd (omega (arith, same, below))))
            (λ (least : number ≤ other). ⊎_elim
            (λ (above : number < other). elsewhere (λ same. absurd (omega (arith, same, above))))
            (λ (most : other ≤ number).
            let same : other ≡ number = omega (arith, least, most) in
            let finding = same_finding f g
            (sym (get_or-set_at found number other (Some f) None same known) ∙ now) in
            subst (λ (n : ℕ). IsFinding modules policy r n g) (sym same)
            (subst (IsFinding modules policy r number) finding is))
            (cases_lt number other))
            (cases_lt other number);
      }

-- ---- what was found of a module under the policy in force

module _ (b : Books) (number : ℕ) (outcome : Outcome) where
  abbrev now : Finding
  now = record { policy = b.force.policy; outcome = outcome }

  pub says_now : (is : IsFinding b.modules b.force.policy b.force.roster number now)
      → JoinsBut b.force.roster is.unplaced (fault_by is.unplaced outcome)
  says_now is = is.says refl

  finding_now : (unplaced : Module) → slice_get b.modules number ≡ Some unplaced
      → JoinsBut b.force.roster unplaced (fault_by unplaced outcome)
      → IsFinding b.modules b.force.policy b.force.roster number now
  finding_now unplaced is says =
      record { unplaced = unplaced; is = is; most = omega arith; says = λ same. says }

  module _ (are : AreFindings b.modules b.force.policy b.force.roster b.found.items) where
    -- it is noted
    pub noted_now : (found : List (Option Finding)) → found ≡ slice_set b.found.items number (Some now)
        → (unplaced : Module) → slice_get b.modules number ≡ Some unplaced
        → JoinsBut b.force.roster unplaced (fault_by unplaced outcome)
        → AreFindings b.modules b.force.policy b.force.roster found
    noted_now found found_is unplaced is says =
        let known : number < length b.found.items =
        omega (arith, slice_get_within b.modules number unplaced is, are.many) in
        subst (AreFindings b.modules b.force.policy b.force.roster) (sym found_is)
        (findings_set b.modules b.force.policy b.force.roster b.found.items are number now known
        (finding_now unplaced is says))

    -- it was noted
    module _ (noted : slice_get b.found.items number ≡ Some (Some now)) (unplaced : Module)
        (is : slice_get b.modules number ≡ Some unplaced) where
      says_there : JoinsBut b.force.roster unplaced (fault_by unplaced outcome)
      says_there =
          let finding = are.each number now noted in
          subst (λ (m : Module). JoinsBut b.force.roster m (fault_by m outcome))
          (same_module finding.unplaced unplaced (sym finding.is ∙ is)) (says_now finding)

      pub unjoined_now : (fault : JoinFault) → fault_by unplaced outcome ≡ Some fault → IsUnprepared b number fault
      unjoined_now fault fault_is = record {
        unplaced = unplaced;
        is = is;
        why = subst (JoinsBut b.force.roster unplaced) fault_is says_there;
      }

      pub joins_now : fault_by unplaced outcome ≡ None → DoesJoin b.modules b.force.roster number
      joins_now none =
          let joins = subst (JoinsBut b.force.roster unplaced) none says_there in
          record { unplaced = unplaced; is = is; placed = joins.0; joins = joins.1 }
