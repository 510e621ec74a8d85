-- The guests' parts, one after the other.
use Rattle.std.proofs.Common.{◌≡◌, ◌≢◌, ◌<◌, ℕ, List, [], ◌∷◌, ◌++◌, Some, None, None, get_or, slice_get, length, map, refl, sym, ap, subst, ◌∙◌, arith, inl, inr}
use Rattle.std.proofs.Math.Seq.{get_or-append_seam}
use Rattle.std.proofs.lemmas.Bool.{cases_lt}
use Rattle.std.proofs.lemmas.List.{get_or_append_left, length-append, length-map, map-append}
use Rattle.std.proofs.lemmas.Option.{get_or_from_slice_get, slice_get-get_or, slice_get_within}
use Rattle.cfi_loader.specs.Ledger.{Ledger}
use Rattle.cfi_loader.specs.Passes.{with_keeping}
use Rattle.cfi_model.specs.declared.history.Entry.{Entry as TableEntry}
use Rattle.cfi_guest_part.specs.Part.{HasFields}
use Rattle.cfi_plan.specs.declared.plan.Plan.{Plan}
use Rattle.cfi_report.specs.declared.report.GuestPart.{GuestPart}
use Rattle.cfi_slips.specs.Lines.{lines_of}
use Rattle.cfi_tables.specs.Key.{Key}
use Rattle.cfi_tables.specs.Keeping.{let_in}
use Rattle.cfi_valid.specs.Course.{Course}
use Rattle.cfi_guest_run.specs.Answered.{AreAnswered}
use Rattle.cfi_guest_run.specs.Concluded.{IsEndedRun}
use Rattle.cfi_guest_run.specs.Ending.{IsPartAt, part_by}
use Rattle.cfi_guest_run.specs.Runner.{Ran}
use Rattle.cfi_guest_run.specs.inner.Ending.{ArePartsAt, AreTaken, HasLetIn}
use Rattle.cfi_guest_run.proofs.LineLemmas.{parts_push}

-- ---- the runner at a place

pub ended_at : (runners : List Ran) → ((number : ℕ) → IsEndedRun number (slice_get runners number)) → (number : ℕ)
    (ran : Ran) → number < length runners → ran ≡ get_or runners number ran → IsEndedRun number (Some ran)
ended_at runners all number ran within is =
    subst (IsEndedRun number)
    (slice_get-get_or runners number ran within ∙ ap (λ (x : Ran). Some x) (sym is)) (all number)

-- ---- passes are taken back

pub let_in_same : (l : Ledger) → HasLetIn l l
let_in_same l = record { course = refl; entries = refl }

pub let_in_more : (old mid new : Ledger) (guest : ℕ) → HasLetIn old mid
    → new ≡ with_keeping (let_in guest mid.keeping) mid → HasLetIn old new
let_in_more old mid new guest before is = record {
  course = ap (λ (l : Ledger). l.course) is ∙ before.course;
  entries = ap (λ (l : Ledger). l.keeping.entries) is ∙ before.entries;
}

-- a part looks at the course and the entries alone
pub part_same : (k : Key) (old new : Ledger) → HasLetIn old new → (number : ℕ) (part : GuestPart)
    → IsPartAt k new number part → IsPartAt k old number part
part_same k old new same number part at =
    let Ledged : Course × List TableEntry → Ledger =
    λ z. record old { course = z.0; keeping = record old.keeping { entries = z.1 } } in
    subst (λ (z : Course × List TableEntry). IsPartAt k (Ledged z) number part)
    (λ i. (same.course i, same.entries i))
    (record { ended = at.ended; run = at.run })

-- ---- a part more

-- what holds of each part holds of each with one more
module _ (P : (number : ℕ) → GuestPart → Type 0) (parts : List GuestPart) (part : GuestPart)
    (each : (number : ℕ) (x : GuestPart) → slice_get parts number ≡ Some x → P number x) (one : P (length parts) part)
  where
    each_more : (number : ℕ) (x : GuestPart) → slice_get (parts ++ part ∷ []) number ≡ Some x → P number x
    each_more number x there =
        let found = get_or_from_slice_get (parts ++ part ∷ []) number x part there in
        elim (cases_lt number (length parts)) [
          | inl less ↦
              each number x
              (slice_get-get_or parts number part less
              ∙ ap (λ (y : GuestPart). Some y) (sym (get_or_append_left parts (part ∷ []) part number less) ∙ found))
          | inr past ↦
              let within = slice_get_within (parts ++ part ∷ []) number x there in
              let last : number ≡ length parts = omega (arith, within, past, length-append parts (part ∷ [])) in
              let same : x ≡ part =
              sym found
              ∙ ap (λ (n : ℕ). get_or (parts ++ part ∷ []) n part) last
              ∙ get_or-append_seam parts part [] part in
              subst (λ (z : ℕ × GuestPart). P z.0 z.1) (λ i. (sym last i, sym same i)) one
        ]

-- the part logs the opens of the lines in a guest's name
abbrev TellsOpens : Ledger → (number : ℕ) → GuestPart → Type 0
TellsOpens l number part = AreAnswered part.log (lines_of number l.course.journal)

pub parts_more : (k : Key) (l : Ledger) (parts : List GuestPart) (part : GuestPart) → ArePartsAt k l parts
    → IsPartAt k l (length parts) part → TellsOpens l (length parts) part → HasFields part
    → ArePartsAt k l (parts ++ part ∷ [])
parts_more k l parts part are one opens fields = record {
  each = each_more (IsPartAt k l) parts part are.each one;
  opens = each_more (TellsOpens l) parts part are.opens opens;
  fields = parts_push parts part are.fields fields;
}

pub no_parts : (k : Key) (l : Ledger) → ArePartsAt k l []
no_parts k l = record {
  each = λ number part there. absurd (nothing number part there);
  opens = λ number part there. absurd (nothing number part there);
  fields = tt;
}
  where
    nothing : (number : ℕ) (part : GuestPart) → slice_get [] number ≡ Some part → ⊥
    nothing number part there = absurd (cc)

-- ---- a runner more

module _ (k : Key) (plan : Plan) (first now after : Ledger) (runners : List Ran)
    (all_ended : (number : ℕ) → IsEndedRun number (slice_get runners number)) (taken : List Ran) (ran : Ran)
    (within : length taken < length runners) (is : ran ≡ get_or runners (length taken) ran)
    (parts more : List GuestPart) (part : GuestPart) (say : parts ≡ map (part_by plan) taken)
    (are : ArePartsAt k first parts) (same : HasLetIn first now) (says : part ≡ part_by plan ran)
    (at : IsPartAt k now ran.pass.guest part) (opens : TellsOpens now ran.pass.guest part) (fields : HasFields part)
    (pushed : more ≡ parts ++ part ∷ [])
    (out : after ≡ with_keeping (let_in ran.pass.guest now.keeping) now) where
  many : length taken ≡ length parts
  many = sym (ap (λ (xs : List GuestPart). length xs) say ∙ length-map taken (part_by plan))

  number : ran.pass.guest ≡ length parts
  number = (ended_at runners all_ended (length taken) ran within is).0 ∙ many

  more_say : more ≡ map (part_by plan) (taken ++ ran ∷ [])
  more_say =
      pushed
      ∙ ap (λ (xs : List GuestPart). xs ++ part ∷ []) say
      ∙ ap (λ (x : GuestPart). map (part_by plan) taken ++ x ∷ []) says
      ∙ sym (map-append (part_by plan) taken (ran ∷ []))

  more_parts : ArePartsAt k first more
  more_parts =
      subst (ArePartsAt k first) (sym pushed)
      (parts_more k first parts part are
      (subst (λ (n : ℕ). IsPartAt k first n part) number (part_same k first now same ran.pass.guest part at))
      (subst (λ (z : ℕ × Course). AreAnswered part.log (lines_of z.0 z.1.journal)) (λ i. (number i, same.course i)) opens)
      fields)

  -- so far all are taken back
  pub taken_more : AreTaken k plan first after (taken ++ ran ∷ []) more
  taken_more = record {
    say = more_say;
    each = more_parts;
    same = let_in_more first now after ran.pass.guest same out;
  }

pub none_taken : (k : Key) (plan : Plan) (first : Ledger) (parts : List GuestPart) → parts ≡ []
    → AreTaken k plan first first [] parts
none_taken k plan first parts none = record {
  say = none;
  each = subst (ArePartsAt k first) (sym none) (no_parts k first);
  same = let_in_same first;
}

-- the part of each runner that is ended stands at its number
pub ended_stops : (at : ℕ) (ran : Ran) → IsEndedRun at (Some ran) → ran.guest.base.stop ≢ None
ended_stops at ran is = is.1
