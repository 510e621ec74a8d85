-- The guests of a report, one by one.
use Rattle.std.proofs.Common.{◌≡◌, ℕ, ◌+◌, ◌<◌, ◌≤◌, List, length, get_or, Some, sym, ap, subst, ◌∙◌, ⊎_elim, arith}
use Rattle.std.specs.List.{slice_get}
use Rattle.std.proofs.lemmas.Bool.{cases_lt}
use Rattle.std.proofs.lemmas.Option.{slice_get_within}
use Rattle.cfi_report.specs.declared.report.GuestPart.{GuestPart}
use Rattle.cfi_report.specs.declared.report.Report.{Report}
use Rattle.cfi_valid.specs.Valid.{OfEach}
use Rattle.cfi_judge.specs.Judge.{IsFirstPart}
use Rattle.cfi_judge.proofs.ItemLemmas.{item_there}

-- something holds of the first guests
abbrev pub OfFirst : Report → (Holds : (number : ℕ) → GuestPart → Type 0) → (number : ℕ) → Type 0
OfFirst report Holds number =
    (k : ℕ) (part : GuestPart) → k < number → slice_get report.guests k ≡ Some part → Holds k part

-- the part of a number
pub part_there : (report : Report) (parts : List GuestPart) → parts ≡ report.guests → (number : ℕ) (part : GuestPart)
    → number < length parts → part ≡ get_or parts number part → slice_get report.guests number ≡ Some part
part_there report parts same number part within is =
    subst (λ (ps : List GuestPart). slice_get ps number ≡ Some part) same (item_there parts number part within is)

module _ (report : Report) (Holds : (number : ℕ) → GuestPart → Type 0) where
  pub none_first : OfFirst report Holds 0
  none_first k part less is = absurd (omega (arith, less))

  module _ (number : ℕ) (before : OfFirst report Holds number) where
    pub one_more : (part : GuestPart) → slice_get report.guests number ≡ Some part → Holds number part
        → OfFirst report Holds (number + 1)
    one_more part is holds = λ k other less other_is. ⊎_elim
        (λ (early : k < number). before k other early other_is)
        (λ (late : number ≤ k).
        let same : number ≡ k = omega (arith, less, late) in
        let both : Some part ≡ Some other = sym is ∙ ap (slice_get report.guests) same ∙ other_is in
        let part_same : part ≡ other = cc in
        subst (λ (n : ℕ). Holds n other) same (subst (Holds number) part_same holds))
        (cases_lt k number)

    pub all_hold : length report.guests ≤ number → OfEach report Holds
    all_hold all k part is = before k part (omega (arith, all, slice_get_within report.guests k part is)) is

    pub first_part : (part : GuestPart) → slice_get report.guests number ≡ Some part → ¬ Holds number part
        → IsFirstPart report Holds number
    first_part part is fails = record { part = part; is = is; fails = fails; before = before }
