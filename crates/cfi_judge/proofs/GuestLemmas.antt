-- Parts of guests, one after the other.
use Rattle.std.proofs.Common.{◌≡◌, ℕ, ◌<◌, ◌≤◌, Bool, false, List, length, get_or, Some, sym, ap, subst, ◌∙◌, arith}
use Rattle.std.specs.Prelude.{◌↔◌, IsTrue, bytes_eq}
use Rattle.std.specs.List.{slice_get}
use Rattle.std.proofs.lemmas.Slice.Eq.{bytes_eq-Decides}
use Rattle.std.proofs.lemmas.Option.{slice_get-get_or, slice_get_within}
use Rattle.cfi_aux.specs.declared.placed.Placed.{Placed}
use Rattle.cfi_plan.specs.declared.plan.Plan.{Plan}
use Rattle.cfi_report.specs.declared.report.GuestPart.{GuestPart}
use Rattle.cfi_report.specs.declared.report.Report.{Report}
use Rattle.cfi_valid.specs.Course.{Course}
use Rattle.cfi_valid.specs.Guests.{Enters}
use Rattle.cfi_valid.specs.Loaded.{placed_modules, loaded_by}
use Rattle.cfi_valid.specs.Parts.{IsPartOf}
use Rattle.cfi_valid.specs.Valid.{HasGuests}
use Rattle.cfi_judge.specs.Guests.{HasStarts}
use Rattle.cfi_judge.specs.inner.Guests.{IsGuest, AreGuests}
use Rattle.cfi_judge.proofs.RefutesLemmas.{refuted}

-- the parts below a number are those of the plan's guests
abbrev pub AreBelow : Plan → (starts : List Placed) → (parts : List GuestPart) → (number : ℕ) → Type 0
AreBelow plan starts parts number =
    (k : ℕ) (part : GuestPart) → k < number → slice_get parts k ≡ Some part → IsGuest plan starts k part

-- ---- one guest of a plan

module _ (plan : Plan) (number : ℕ) (entry : List ℕ) (guests : List (List ℕ)) (same : guests ≡ plan.guests) where
  pub planned : (name : List ℕ) → number < length guests → name ≡ get_or guests number name → (answer : Bool)
      → (one : List ℕ) → one ≡ name → (other : List ℕ) → other ≡ entry → answer ≡ bytes_eq one other
      → IsTrue answer ↔ (slice_get plan.guests number ≡ Some entry)
  planned name within is answer one one_is other other_is exact =
      let there : slice_get plan.guests number ≡ Some name =
      ap (λ (gs : List (List ℕ)). slice_get gs number) (sym same)
      ∙ slice_get-get_or guests number name within
      ∙ ap (λ (n : List ℕ). Some n) (sym is) in
      let decides = bytes_eq-Decides one other in (
        λ yes.
            there
            ∙ ap (λ (n : List ℕ). Some n) (sym one_is ∙ decides.0 (sym exact ∙ yes) ∙ other_is),
        λ planned.
            let both : Some name ≡ Some entry = sym there ∙ planned in
            let equal : name ≡ entry = cc in
            exact ∙ decides.1 (one_is ∙ equal ∙ sym other_is),
      )

  pub unplanned : length guests ≤ number → IsTrue false ↔ (slice_get plan.guests number ≡ Some entry)
  unplanned past =
      refuted (slice_get plan.guests number ≡ Some entry)
      (λ there. absurd (omega (
        arith,
        past,
        ap (λ (gs : List (List ℕ)). length gs) same,
        slice_get_within plan.guests number entry there,
      )))

-- ---- all guests, in a course

module _ (plan : Plan) (starts : List Placed) (report : Report) (c : Course) (has : HasStarts plan starts c) where
  guest_part : (number : ℕ) (part : GuestPart) → IsGuest plan starts number part → IsPartOf c number part
  guest_part number part guest =
      let begins : Enters c.plan (placed_modules (loaded_by 0 c.end.loaded)) part.entry =
      subst (λ (ps : List Placed). Enters c.plan ps part.entry) (sym has.starts_are)
      (subst (λ (p : Plan). Enters p starts part.entry) (sym has.plan_is) guest.enters) in
      record {
        is = guest.is;
        entry = ap (λ (p : Plan). slice_get p.guests number) has.plan_is ∙ guest.entry;
        begins = begins;
      }

  part_guest : (number : ℕ) (part : GuestPart) → IsPartOf c number part → IsGuest plan starts number part
  part_guest number part is = record {
    is = is.is;
    entry = sym (ap (λ (p : Plan). slice_get p.guests number) has.plan_is) ∙ is.entry;
    enters = subst (λ (p : Plan). Enters p starts part.entry) has.plan_is
        (subst (λ (ps : List Placed). Enters c.plan ps part.entry) has.starts_are is.begins);
  }

  pub guests_told : length report.guests ≡ length plan.guests → (parts : List GuestPart) → parts ≡ report.guests
      → (answer : Bool) → (IsTrue answer ↔ AreGuests plan starts parts) → IsTrue answer ↔ HasGuests c report
  guests_told many parts same answer exact =
      let told : IsTrue answer ↔ AreGuests plan starts report.guests =
      subst (λ (ps : List GuestPart). IsTrue answer ↔ AreGuests plan starts ps) same exact in (
        λ yes. record {
          count = many ∙ sym (ap (λ (p : Plan). length p.guests) has.plan_is);
          parts = λ number part is. guest_part number part (told.0 yes number part is);
        },
        λ guests. told.1 (λ number part is. part_guest number part (guests.parts number part is)),
      )
