-- A module has one meeting, and what that is without the numbers of its fault.
use Rattle.std.proofs.Common.{◌≡◌, ℕ, ◌<◌, List, length, Some, refl, sym, ap, subst, ◌∙◌, arith}
use Rattle.std.proofs.lemmas.Option.{slice_get_within}
use Rattle.cfi_aux.specs.declared.modules.Module.{Module}
use Rattle.cfi_modules.proofs.OrderLemmas.{joins_or_refused, one_fault}
use Rattle.cfi_modules.specs.Numbers.{numbers_of}
use Rattle.cfi_modules.specs.Order.{IsJoinFault, Joins}
use Rattle.cfi_modules.specs.declared.numbers.FaultNumbers.{FaultNumbers}
use Rattle.cfi_modules.specs.declared.numbers.FaultNumbers.TheVariants.{Place, Verify}
use Rattle.cfi_valid.specs.Joining.{HasFault, HasNoFault, IsUnloaded}
use Rattle.cfi_valid.specs.Loaded.{LoadedModule, placed_modules}
use Rattle.cfi_judge.specs.inner.Rows.{IsMeeting, IsOfKind, kind_of}
use Rattle.cfi_judge.specs.declared.meeting.Meeting.{Meeting}
use Rattle.cfi_judge.specs.declared.meeting.Meeting.TheVariants.{Again, Gone, Full, Unplaced, Unverified, Joins as JoinsAll}
use Rattle.cfi_judge.specs.declared.meeting.Kind.{Kind}
use Rattle.cfi_judge.specs.declared.meeting.Kind.TheVariants as kinds
use Rattle.cfi_judge.proofs.MeetingLemmas.{told_not_memory}

module _ (code_words : ℕ) (modules : List Module) (loaded live : List LoadedModule) (number : ℕ) where
  same_unplaced : (a b : IsUnloaded modules loaded number) → a.unplaced ≡ b.unplaced
  same_unplaced a b = let both : Some a.unplaced ≡ Some b.unplaced = sym a.is ∙ b.is in cc

  numbers_once : (a b : FaultNumbers) → HasFault code_words modules loaded live number a
      → HasFault code_words modules loaded live number b → a ≡ b
  numbers_once a b p q =
      let stands : IsJoinFault code_words (placed_modules loaded) (placed_modules live) p.absent.unplaced q.fault =
      subst (λ (m : Module). IsJoinFault code_words (placed_modules loaded) (placed_modules live) m q.fault)
      (same_unplaced q.absent p.absent) q.stands in
      let same : p.fault ≡ q.fault =
      one_fault code_words (placed_modules loaded) (placed_modules live) p.absent.unplaced p.fault q.fault p.stands
      stands
      (told_not_memory p.fault a p.told) (told_not_memory q.fault b q.told) in
      let both : Some a ≡ Some b = sym p.told ∙ ap numbers_of same ∙ q.told in cc

  never_both : (a : FaultNumbers) → HasFault code_words modules loaded live number a
      → ¬ HasNoFault code_words modules loaded live number
  never_both a p q =
      let joins : Joins code_words (placed_modules loaded) (placed_modules live) p.absent.unplaced q.placed =
      subst (λ (m : Module). Joins code_words (placed_modules loaded) (placed_modules live) m q.placed)
      (same_unplaced q.absent p.absent) q.joins in
      told_not_memory p.fault a p.told
      (joins_or_refused code_words (placed_modules loaded) (placed_modules live) p.absent.unplaced q.placed p.fault
      joins p.stands)

  never_each : (f g place : ℕ) → HasFault code_words modules loaded live number (Place f)
      → ¬ HasFault code_words modules loaded live number (Verify g place)
  never_each f g place p q = let same = numbers_once (Place f) (Verify g place) p q in cc

  -- it is known
  pub meeting_known : (meeting : Meeting) → IsMeeting code_words modules loaded live number meeting
      → number < length modules
  meeting_known Again is = is.2
  meeting_known Gone is = is.1
  meeting_known Full is = is.known
  meeting_known (Unplaced fault) is = slice_get_within modules number is.absent.unplaced is.absent.is
  meeting_known (Unverified fault place) is = slice_get_within modules number is.absent.unplaced is.absent.is
  meeting_known JoinsAll is = slice_get_within modules number is.absent.unplaced is.absent.is

  pub meeting_once : (a b : Meeting) → IsMeeting code_words modules loaded live number a
      → IsMeeting code_words modules loaded live number b → a ≡ b
  meeting_once Again Again p q = refl
  meeting_once Again Gone p q = absurd (q.0.gone p.0)
  meeting_once Again Full p q = absurd (q.absent p.1)
  meeting_once Again (Unplaced g) p q = absurd (q.absent.absent p.1)
  meeting_once Again (Unverified g j) p q = absurd (q.absent.absent p.1)
  meeting_once Again JoinsAll p q = absurd (q.absent.absent p.1)
  meeting_once Gone Again p q = absurd (p.0.gone q.0)
  meeting_once Gone Gone p q = refl
  meeting_once Gone Full p q = absurd (q.absent p.0.has)
  meeting_once Gone (Unplaced g) p q = absurd (q.absent.absent p.0.has)
  meeting_once Gone (Unverified g j) p q = absurd (q.absent.absent p.0.has)
  meeting_once Gone JoinsAll p q = absurd (q.absent.absent p.0.has)
  meeting_once Full Again p q = absurd (p.absent q.1)
  meeting_once Full Gone p q = absurd (p.absent q.0.has)
  meeting_once Full Full p q = refl
  meeting_once Full (Unplaced g) p q = absurd (omega (arith, p.full, q.absent.room))
  meeting_once Full (Unverified g j) p q = absurd (omega (arith, p.full, q.absent.room))
  meeting_once Full JoinsAll p q = absurd (omega (arith, p.full, q.absent.room))
  meeting_once (Unplaced f) Again p q = absurd (p.absent.absent q.1)
  meeting_once (Unplaced f) Gone p q = absurd (p.absent.absent q.0.has)
  meeting_once (Unplaced f) Full p q = absurd (omega (arith, q.full, p.absent.room))
  meeting_once (Unplaced f) (Unplaced g) p q = let same = numbers_once (Place f) (Place g) p q in cc
  meeting_once (Unplaced f) (Unverified g j) p q = absurd (never_each f g j p q)
  meeting_once (Unplaced f) JoinsAll p q = absurd (never_both (Place f) p q)
  meeting_once (Unverified f i) Again p q = absurd (p.absent.absent q.1)
  meeting_once (Unverified f i) Gone p q = absurd (p.absent.absent q.0.has)
  meeting_once (Unverified f i) Full p q = absurd (omega (arith, q.full, p.absent.room))
  meeting_once (Unverified f i) (Unplaced g) p q = absurd (never_each g f i q p)
  meeting_once (Unverified f i) (Unverified g j) p q = let same = numbers_once (Verify f i) (Verify g j) p q in cc
  meeting_once (Unverified f i) JoinsAll p q = absurd (never_both (Verify f i) p q)
  meeting_once JoinsAll Again p q = absurd (p.absent.absent q.1)
  meeting_once JoinsAll Gone p q = absurd (p.absent.absent q.0.has)
  meeting_once JoinsAll Full p q = absurd (omega (arith, q.full, p.absent.room))
  meeting_once JoinsAll (Unplaced g) p q = absurd (never_both (Place g) q p)
  meeting_once JoinsAll (Unverified g j) p q = absurd (never_both (Verify g j) q p)
  meeting_once JoinsAll JoinsAll p q = refl

  -- ---- without the numbers of its fault

  pub kind_is : (meeting : Meeting) → IsMeeting code_words modules loaded live number meeting
      → IsOfKind code_words modules loaded live number (kind_of meeting)
  kind_is Again is = is
  kind_is Gone is = is
  kind_is Full is = is
  kind_is (Unplaced fault) is = (fault, is)
  kind_is (Unverified fault place) is = (fault, place, is)
  kind_is JoinsAll is = is

  pub of_kind : (kind : Kind) → IsOfKind code_words modules loaded live number kind
      → (meeting : Meeting) × IsMeeting code_words modules loaded live number meeting × (kind_of meeting ≡ kind)
  of_kind kinds.Again is = (Again, is, refl)
  of_kind kinds.Gone is = (Gone, is, refl)
  of_kind kinds.Full is = (Full, is, refl)
  of_kind kinds.Unplaced is = (Unplaced is.0, is.1, refl)
  of_kind kinds.Unverified is = (Unverified is.0 is.1, is.2, refl)
  of_kind kinds.Joins is = (JoinsAll, is, refl)
