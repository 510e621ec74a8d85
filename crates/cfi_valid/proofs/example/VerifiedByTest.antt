-- Modules that a test tells to verify, where their functions leave no gaps.
use Rattle.std.proofs.Common.{◌≡◌, ℕ, ◌+◌, ◌*◌, ◌/◌, ◌<◌, ◌&&◌, ◌⊎◌, ℤ, Bool, true, false, List, ◌∷◌, length, Option, Some, None, inl, inr, refl, ap, subst, arith}
use Rattle.std.specs.Prelude.{◌==◌, ◌||◌, nat_le, nat_lt, slice_get}
use Rattle.std.specs.List.{Contains, list_all, list_any, flat_map}
use Rattle.std.proofs.lemmas.Bool.{and_parts, leb-true, ltb-true, eqb-true}
use Rattle.cfi_aux.specs.Extent.{end_of, LiesIn}
use Rattle.cfi_aux.specs.Records.{AllEntriesIn}
use Rattle.cfi_aux.specs.declared.placed.Placed.{Placed}
use Rattle.cfi_aux.specs.declared.placed.PlacedFunction.{PlacedFunction}
use Rattle.cfi_aux.specs.declared.records.Kind.{Kind}
use Rattle.cfi_aux.specs.declared.records.Kind.TheVariants.{Switch}
use Rattle.cfi_type_table.specs.Kind.{is_callable}
use Rattle.cfi_unit.specs.declared.spot.Spot.{Spot}
use Rattle.cfi_unit.specs.declared.unit.Unit.{Unit as CodeUnit}
use Rattle.cfi_unit.specs.declared.unit.Unit.TheVariants.{Branch, Jump}
use Rattle.cfi_unit.specs.Spots.{spots_of, BeginsUnit}
use Rattle.cfi_unit.specs.Unit.{words_of}
use Rattle.cfi_verify.specs.declared.checks.CheckSpot.{CheckSpot}
use Rattle.cfi_verify.specs.Branches.{NamesSlot, KindFits, IsEntry, EntriesFit}
use Rattle.cfi_verify.specs.Fault.{IsVerified}
use Rattle.cfi_verify.specs.Functions.{end_before, FitsBehind, may_be_last, EndsWell}
use Rattle.cfi_verify.specs.Spots.{checks_of}
use Rattle.cfi_verify.specs.Target.{IsAtHome, LeadsHome, LeadsToEntry, entries_of, MayLead, LeadsWell}
use Rattle.cfi_valid.proofs.EachLemmas.{is_most, most_by}
use Rattle.cfi_valid.proofs.example.FitLemmas.{are_units, all_units}
use Rattle.cfi_valid.proofs.example.TestLemmas.{has_any, either, all_numbered, each_tested, all_tested, record_fits, is_record, word_after, leads, leads_to}

-- ---- a module

module _ (m : Placed) (loaded : List Placed) (us : List CodeUnit) where
  abbrev spots : List Spot
  spots = spots_of 0 us

  abbrev begins_at : (at : ℕ) → Bool
  begins_at at = list_any (λ (s : Spot). s.at == at) spots

  begins : (at : ℕ) → begins_at at ≡ true → BeginsUnit spots at
  begins at is =
      let found = has_any (λ (s : Spot). s.at == at) spots is in
      (found.0, found.1, eqb-true found.0.at at found.2)

  abbrev lies : PlacedFunction → (at : ℕ) → Bool
  lies f at = nat_le f.first at && nat_lt at (end_of f)

  lies_in : (f : PlacedFunction) (at : ℕ) → lies f at ≡ true → LiesIn f at
  lies_in f at is =
      let both = and_parts (nat_le f.first at) (nat_lt at (end_of f)) is in
      (leb-true f.first at both.0, ltb-true at (end_of f) both.1)

  -- ---- functions

  abbrev ends_at_unit : PlacedFunction → Bool
  ends_at_unit f = (end_of f == length m.words) || begins_at (end_of f)

  ends_there : (f : PlacedFunction) → ends_at_unit f ≡ true → (end_of f ≡ length m.words) ⊎ BeginsUnit spots (end_of f)
  ends_there f is =
      elim (either (end_of f == length m.words) (begins_at (end_of f)) is) [
        | inl here ↦ inl (eqb-true (end_of f) (length m.words) here)
        | inr later ↦ inr (begins (end_of f) later)
      ]

  abbrev function_fits : ℕ → PlacedFunction → Bool
  function_fits number f =
      nat_lt 0 f.count
      && ((end_before m.functions number == f.first)
      && (nat_le (end_of f) (length m.words)
      && (begins_at f.first && (ends_at_unit f && is_callable m.types f.ty))))

  fits : (number : ℕ) (f : PlacedFunction) → function_fits number f ≡ true → FitsBehind m spots number f
  fits number f is =
      let some = and_parts _ _ is in
      let order = and_parts _ _ some.1 in
      let within = and_parts _ _ order.1 in
      let start = and_parts _ _ within.1 in
      let ends = and_parts _ _ start.1 in
      let same : end_before m.functions number ≡ f.first = eqb-true (end_before m.functions number) f.first order.0 in
      record {
        some = ltb-true 0 f.count some.0;
        order = omega (arith, same);
        within = leb-true (end_of f) (length m.words) within.0;
        begins = begins f.first start.0;
        ends = ends_there f ends.0;
        typed = ends.1;
        idle = λ other has from to. absurd (omega (arith, same, from, to));
      }

  abbrev is_last : PlacedFunction → Spot → Bool
  is_last f s = lies f s.at && (may_be_last s.unit && list_all (is_most f s.at) spots)

  abbrev function_ends : ℕ → PlacedFunction → Bool
  function_ends number f = list_any (is_last f) spots

  closes : (number : ℕ) (f : PlacedFunction) → function_ends number f ≡ true → EndsWell spots number f
  closes number f is =
      let found = has_any (is_last f) spots is in
      let here = and_parts (lies f found.0.at) _ found.2 in
      let last = and_parts (may_be_last found.0.unit) (list_all (is_most f found.0.at) spots) here.1 in (
        found.0,
        record {
          has = found.1;
          lies = lies_in f found.0.at here.0;
          last = most_by f found.0.at spots last.1;
        },
        last.0,
      )

  -- ---- targets

  abbrev is_home : (at to : ℕ) → Bool
  is_home at to = list_any (λ (f : PlacedFunction). lies f at && lies f to) m.functions && begins_at to

  home : (at to : ℕ) → is_home at to ≡ true → IsAtHome m.functions spots at to
  home at to is =
      let both = and_parts (list_any (λ (f : PlacedFunction). lies f at && lies f to) m.functions) (begins_at to) is in
      let found = has_any (λ (f : PlacedFunction). lies f at && lies f to) m.functions both.0 in
      let inside = and_parts (lies found.0 at) (lies found.0 to) found.2 in
      record {
        home = found.0;
        has = found.1;
        from = lies_in found.0 at inside.0;
        lies = lies_in found.0 to inside.1;
        unit = begins to both.1;
      }

  abbrev goes_home : (at : ℕ) → ℤ → Bool
  goes_home at off = leads at off (word_after at off) && is_home at (word_after at off)

  leads_home : (at : ℕ) (off : ℤ) → goes_home at off ≡ true → LeadsHome m spots at off
  leads_home at off is =
      let both = and_parts (leads at off (word_after at off)) (is_home at (word_after at off)) is in
      (word_after at off, leads_to at off (word_after at off) both.0, home at (word_after at off) both.1)

  abbrev goes_in : (at : ℕ) → ℤ → Bool
  goes_in at off =
      leads (m.base + at) off (word_after (m.base + at) off)
      && list_any (λ (k : ℕ). k == word_after (m.base + at) off) (entries_of (m ∷ loaded))

  leads_in : (at : ℕ) (off : ℤ) → goes_in at off ≡ true → LeadsToEntry m loaded at off
  leads_in at off is =
      let to = word_after (m.base + at) off in
      let both = and_parts (leads (m.base + at) off to) (list_any (λ (k : ℕ). k == to) (entries_of (m ∷ loaded))) is in
      let found = has_any (λ (k : ℕ). k == to) (entries_of (m ∷ loaded)) both.1 in
      let there = subst (Contains (entries_of (m ∷ loaded))) (eqb-true found.0 to found.2) found.1 in
      (to, leads_to (m.base + at) off to both.0, there)

  abbrev unit_leads : (at : ℕ) → CodeUnit → Bool
  unit_leads at (Branch cond rs1 rs2 off) = goes_home at off
  unit_leads at (Jump true off) = goes_in at off
  unit_leads at (Jump false off) = goes_home at off || goes_in at off
  unit_leads at unit = true

  may_lead : (at : ℕ) (u : CodeUnit) → unit_leads at u ≡ true → MayLead m loaded spots at u
  may_lead at (Branch cond rs1 rs2 off) is = leads_home at off is
  may_lead at (Jump true off) is = leads_in at off is
  may_lead at (Jump false off) is =
      elim (either (goes_home at off) (goes_in at off) is) [
        | inl here ↦ inl (leads_home at off here)
        | inr there ↦ inr (leads_in at off there)
      ]
  may_lead at unit is = tt

  -- ---- entries of switches

  abbrev is_entry : (at offset : ℕ) → Bool
  is_entry at offset = (offset == 4 * (offset / 4)) && is_home at (offset / 4)

  entry : (at offset : ℕ) → is_entry at offset ≡ true → IsEntry m spots at offset
  entry at offset is =
      let both = and_parts (offset == 4 * (offset / 4)) (is_home at (offset / 4)) is in
      (offset / 4, eqb-true offset (4 * (offset / 4)) both.0, home at (offset / 4) both.1)

  abbrev entries_fit : (at : ℕ) → Option Kind → Bool
  entries_fit at (Some (Switch entries)) = list_all (is_entry at) entries
  entries_fit at kind = true

  all_entries : (at : ℕ) (kind : Option Kind) → entries_fit at kind ≡ true → AllEntriesIn (IsEntry m spots at) kind
  all_entries at None is = tt
  all_entries at (Some (Switch entries)) is = all_tested (is_entry at) (IsEntry m spots at) (entry at) entries is
  all_entries at (Some kind) is = tt

  -- ---- all of it

  abbrev names_slot : ℕ → CheckSpot → Bool
  names_slot number check = check.slot == m.slot_base + number

  abbrev has_record : ℕ → CheckSpot → Bool
  has_record number check = record_fits m.types check.link (slice_get m.branches number)

  abbrev has_entries : ℕ → CheckSpot → Bool
  has_entries number check = entries_fit check.at (slice_get m.branches number)

  abbrev spot_leads : ℕ → Spot → Bool
  spot_leads number spot = unit_leads spot.at spot.unit

  abbrev is_laid : Bool
  is_laid =
      nat_lt 0 (length m.words)
      && (are_units us
      && (all_numbered names_slot (checks_of spots)
      && (all_numbered function_fits m.functions
      && ((end_before m.functions (length m.functions) == length m.words)
      && all_numbered function_ends m.functions))))

  abbrev leads_well : Bool
  leads_well =
      all_numbered spot_leads spots
      && (all_numbered has_record (checks_of spots)
      && (nat_le (length m.branches) (length (checks_of spots))
      && all_numbered has_entries (checks_of spots)))

  pub verified_by : m.words ≡ flat_map words_of us → is_laid ≡ true → leads_well ≡ true → IsVerified m loaded
  verified_by spelled laid well =
      let some = and_parts _ _ laid in
      let fit = and_parts _ _ some.1 in
      let slots = and_parts _ _ fit.1 in
      let functions = and_parts _ _ slots.1 in
      let idle = and_parts _ _ functions.1 in
      let targets = and_parts _ _ well in
      let kinds = and_parts _ _ targets.1 in
      let records = and_parts _ _ kinds.1 in
      let length_is : 0 < length m.words = ltb-true 0 (length m.words) some.0 in
      let last : end_before m.functions (length m.functions) ≡ length m.words = eqb-true _ _ idle.0 in (
        spots,
        record {
          laid = record {
            some = λ none. absurd (omega (arith, ap (λ (ws : List ℕ). length ws) none, length_is));
            units = record {
              code = us;
              units = record { fit = all_units us fit.0; spelled = spelled };
              places = refl;
            };
            slots = each_tested names_slot (NamesSlot m)
                (λ k check is. eqb-true check.slot (m.slot_base + k) is) (checks_of spots) slots.0;
            functions = each_tested function_fits (FitsBehind m spots) fits m.functions functions.0;
            idle = λ other has from to. absurd (omega (arith, last, from, to));
            ends = each_tested function_ends (EndsWell spots) closes m.functions idle.1;
          };
          targets = each_tested spot_leads (LeadsWell m loaded spots)
              (λ k s is. may_lead s.at s.unit is) spots targets.0;
          kinds = each_tested has_record (KindFits m)
              (λ k check is. is_record m.types check.link (slice_get m.branches k) is) (checks_of spots) kinds.0;
          records = leb-true (length m.branches) (length (checks_of spots)) records.0;
          switches = each_tested has_entries (EntriesFit m spots)
              (λ k check is. all_entries check.at (slice_get m.branches k) is) (checks_of spots) records.1;
        },
      )
