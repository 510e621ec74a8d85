-- The words of a line say this line.
use Rattle.std.proofs.Common.{◌≡◌, ℕ, ◌^◌, ◌<◌, false, List, ◌∷◌, length, map, Option, Some, None, nat_eq, refl, sym, ap, ◌∙◌, subst, arith}
use Rattle.std.specs.List.{AllByRecursion}
use Rattle.std.specs.Prelude.{codes}
use Rattle.std.specs.Option.{option_map}
use Rattle.std.specs.Str.{bytes_eq}
use Rattle.std.proofs.lemmas.Bool.{cond-false, ne_eqb}
use Rattle.cfi_text.specs.Decimal.{dec_text, AreDigits, small_number_in}
use Rattle.cfi_text.specs.Hex.{hex8_text}
use Rattle.cfi_text.proofs.DecimalLemmas.{IsDecimal-dec_text, small_number_in-back}
use Rattle.cfi_text.proofs.HexLemmas.{length-hex_digits}
use Rattle.cfi_plan.specs.declared.journal.Who.{Who}
use Rattle.cfi_plan.specs.declared.journal.Who.TheVariants.{Script, Guest}
use Rattle.cfi_plan.specs.declared.journal.JournalLine.{JournalLine}
use Rattle.cfi_plan.specs.declared.journal.JournalLine.TheVariants.{LoadOk, LoadAgain, LoadFull, LoadPlace, LoadVerify, LoadVersions, LoadEpochs, LoadRetired, RefreshOk, RefreshVersions, RefreshEpochs, RetireOk, RetireNotLive, RetireInUse, RetireVersions, RetireEpochs}
use Rattle.cfi_unit.specs.declared.log.Log.TheVariants.{Pick, Open, Cause}
use Rattle.cfi_unit.specs.declared.log.Stop.TheVariants.{Exit, Halt, Align, Fuel}
use Rattle.cfi_report.specs.declared.line.Line.{Line}
use Rattle.cfi_report.specs.declared.line.Line.TheVariants as line
use Rattle.cfi_report.specs.Line.{field_text, who_field, what_fields, line_words}
use Rattle.cfi_report.specs.Report.{IsField, IsLine}
use Rattle.cfi_report.specs.inner.Form.{who_in, what_two, loaded_three, retired_three, called_three, what_three, loaded_four, called_four, what_four, loaded_five, retired_five, called_five, what_five, journal_form, lone_form, pair_form, stop_form, force_form, guest_form, pick_form, three_form, opened_form, four_form, module_form, seven_form, line_form}
use Rattle.cfi_report.proofs.WordLemmas.{address_in-back, bytes_in-back, differs}

-- who asked

not_script : (n : ℕ) → n < 2 ^ 32 → dec_text n ≡ codes "script" → ⊥
not_script n fits same =
    let digits : AreDigits (codes "script") = subst AreDigits same (IsDecimal-dec_text n (omega arith)).digits in
    omega (arith, digits.0)

who-back : (who : Who) → IsField (who_field who) → who_in (field_text (who_field who)) ≡ Some who
unfolding who_in
who-back Script h = refl
who-back (Guest n) h =
    cond-false (bytes_eq (dec_text n) (codes "script")) (Some Script) (option_map Guest (small_number_in (dec_text n)))
    (differs _ _ (not_script n h))
    ∙ ap (option_map Guest) (small_number_in-back n h)

-- a line of the journal

abbrev journal_words : (who : Who) → JournalLine → List (List ℕ)
journal_words who what = codes "journal" ∷ field_text (who_field who) ∷ map field_text (what_fields what)

abbrev journal_line : (who : Who) → JournalLine → Option Line
journal_line who what = Some (line.Journal (record { who = who; what = what }))

module _ (who : Who) (asked : who_in (field_text (who_field who)) ≡ Some who) where
  journal-back : (what : JournalLine) → AllByRecursion IsField (what_fields what)
      → line_form (journal_words who what) ≡ journal_line who what
  unfolding four_form journal_form seven_form what_two what_three what_four what_five loaded_three loaded_four
      loaded_five retired_three retired_five called_three called_four called_five
  journal-back (LoadOk n e p) h =
      rw (asked, small_number_in-back n h.1.0, small_number_in-back e h.1.1.1.0, small_number_in-back p h.1.1.1.1.0) refl
  journal-back (LoadAgain n p) h = rw (asked, small_number_in-back n h.1.0, small_number_in-back p h.1.1.1.0) refl
  journal-back (LoadFull n) h = rw (asked, small_number_in-back n h.1.0) refl
  journal-back (LoadPlace n k) h = rw (asked, small_number_in-back n h.1.0, small_number_in-back k h.1.1.1.0) refl
  journal-back (LoadVerify n k p) h =
      rw (asked, small_number_in-back n h.1.0, small_number_in-back k h.1.1.1.0, small_number_in-back p h.1.1.1.1.0) refl
  journal-back (LoadVersions n g q) h =
      rw (asked, small_number_in-back n h.1.0, small_number_in-back g h.1.1.1.0, small_number_in-back q h.1.1.1.1.0) refl
  journal-back (LoadEpochs n) h = rw (asked, small_number_in-back n h.1.0) refl
  journal-back (LoadRetired n) h = rw (asked, small_number_in-back n h.1.0) refl
  journal-back (RefreshOk e) h = rw (asked, small_number_in-back e h.1.1.0) refl
  journal-back (RefreshVersions g q) h = rw (asked, small_number_in-back g h.1.1.0, small_number_in-back q h.1.1.1.0) refl
  journal-back RefreshEpochs h = rw asked refl
  journal-back (RetireOk n e p) h =
      rw (asked, small_number_in-back n h.1.0, small_number_in-back e h.1.1.1.0, small_number_in-back p h.1.1.1.1.0) refl
  journal-back (RetireNotLive n) h = rw (asked, small_number_in-back n h.1.0) refl
  journal-back (RetireInUse n u) h = rw (asked, small_number_in-back n h.1.0, small_number_in-back u h.1.1.1.0) refl
  journal-back (RetireVersions n g q) h =
      rw (asked, small_number_in-back n h.1.0, small_number_in-back g h.1.1.1.0, small_number_in-back q h.1.1.1.1.0) refl
  journal-back (RetireEpochs n) h = rw (asked, small_number_in-back n h.1.0) refl

-- an address is not the word `cause`
not_cause : (n : ℕ) → hex8_text n ≡ codes "cause" → ⊥
not_cause n same = let size : 8 ≡ 5 = sym (length-hex_digits 8 n) ∙ ap length same in cc

opened-back : (n a p : ℕ) → n < 2 ^ 32 → a < 2 ^ 32 → p < 2 ^ 32
    → opened_form (hex8_text a) (dec_text p) n ≡ Some (line.Log (Open n a p))
unfolding opened_form
opened-back n a p hn ha hp =
    cond-false (bytes_eq (hex8_text a) (codes "cause")) _ _ (differs _ _ (not_cause a))
    ∙ rw (address_in-back a ha, small_number_in-back p hp) refl

cause-back : (n c : ℕ) → n < 2 ^ 32 → c < 2 ^ 32
    → four_form (codes "open") (dec_text n) (codes "cause") (dec_text c) ≡ Some (line.Log (Cause n c))
unfolding four_form opened_form
cause-back n c hn hc = rw (small_number_in-back n hn, small_number_in-back c hc) refl

pick-back : (p c : ℕ) → p < 2 ^ 32 → c < 2 ^ 32 → 0 < c
    → pick_form (dec_text p) (dec_text c) ≡ Some (line.Log (Pick p c))
unfolding pick_form
pick-back p c hp hc some =
    let not_none : nat_eq c 0 ≡ false = ne_eqb c 0 (λ e. omega (arith, e)) in
    rw (small_number_in-back p hp, small_number_in-back c hc, not_none) refl

-- the words of a line say this line
pub form-back : (one : Line) → IsLine one → line_form (line_words one) ≡ Some one
unfolding lone_form pair_form three_form force_form guest_form stop_form four_form seven_form module_form
form-back line.Title h = refl
form-back (line.Force e p) h = rw (small_number_in-back e h.0.1.0, small_number_in-back p h.0.1.1.0) refl
form-back (line.Module one) h =
    rw (
      small_number_in-back one.number h.0.1.0,
      h.0.1.1.0,
      small_number_in-back one.base h.0.1.1.1.0,
      small_number_in-back one.slot
          h.0.1.1.1.1.0,
      address_in-back one.data_base h.0.1.1.1.1.1.0,
      small_number_in-back one.policy h.0.1.1.1.1.1.1.0,
    )
    refl
form-back (line.Journal entry) h = journal-back entry.who (who-back entry.who h.0.1.0) entry.what h.0.1.1
form-back (line.Guest n e) h = rw (small_number_in-back n h.0.1.0, h.0.1.1.0) refl
form-back (line.Log (Pick p c)) h = pick-back p c h.0.1.0 h.0.1.1.0 h.1
form-back (line.Log (Open n a p)) h = rw (small_number_in-back n h.0.1.0) (opened-back n a p h.0.1.0 h.0.1.1.0 h.0.1.1.1.0)
form-back (line.Log (Cause n c)) h = cause-back n c h.0.1.0 h.0.1.1.1.0
form-back (line.Out bytes) h = rw (bytes_in-back bytes h.0.1.0) refl
form-back (line.Stop (Some (Exit code))) h = rw (small_number_in-back code h.0.1.1.0) refl
form-back (line.Stop (Some (Halt place))) h = rw (address_in-back place h.0.1.1.0) refl
form-back (line.Stop (Some (Align place))) h = rw (address_in-back place h.0.1.1.0) refl
form-back (line.Stop (Some Fuel)) h = refl
form-back (line.Stop None) h = absurd h.1
form-back (line.Units n) h = rw (small_number_in-back n h.0.1.0) refl
form-back (line.Steps n) h = rw (small_number_in-back n h.0.1.0) refl
form-back line.End h = refl
