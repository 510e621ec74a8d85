-- Unit by unit, each check under the policy in force in its window.
use Rattle.std.proofs.Common.{◌≡◌, ◌≢◌, ℕ, ℤ, ◌+◌, ◌*◌, ◌/◌, ◌%◌, ◌<◌, ◌≤◌, Bool, List, [], ◌∷◌, ◌++◌, length, Option, Some, None, ◌⊎◌, inl, inr, refl, sym, ap, ◌∙◌, subst, arith}
use Rattle.cfi_unit.specs.declared.unit.Unit.{Unit as CodeUnit}
use Rattle.cfi_unit.specs.declared.unit.Unit.TheVariants as units
use Rattle.cfi_unit.proofs.CodeLemmas.{BeginsAt-one, BeginsAt-within}
use Rattle.cfi_word.specs.Table.{IsCode, code_word, slots_of}
use Rattle.cfi_model.specs.declared.act.Wait.{Wait}
use Rattle.cfi_model.specs.declared.act.Wait.TheVariants as waits
use Rattle.cfi_model.specs.declared.history.Access.{Access}
use Rattle.cfi_model.specs.Came.{LoadedEnd, AsksFor, loaded_end}
use Rattle.cfi_model.specs.Fits.{Fits, FitsReply}
use Rattle.cfi_model.specs.History.{History, IsHistory}
use Rattle.cfi_model.specs.Raw.{Raw}
use Rattle.cfi_model.specs.Run.{Take, Word, Served, take_one}
use Rattle.cfi_model.specs.Service.{Reply}
use Rattle.cfi_model.specs.Shows.{End, AsksUnder, IsBetween, IsReady, IsTriedIn, LiesIn, end_of}
use Rattle.cfi_model.specs.State.{State, register, displaced}
use Rattle.cfi_model.specs.TableMoments.{AreTimed, IsOfTables}
use Rattle.cfi_model.specs.Tables.{IsTables}
use Rattle.cfi_model.specs.Words.{Tables}
use Rattle.cfi_model.proofs.AdvanceLemmas.{Running, at_start, check_ends, check_next, first_access, goes_on, next_access, start_is}
use Rattle.cfi_model.proofs.CheckPlaces.{CheckGoesOn, CheckStops, Values, Found, found_at}
use Rattle.cfi_model.proofs.CheckWalk.{check_begins}
use Rattle.cfi_model.proofs.FetchLemmas.{first_place, start_raw}
use Rattle.cfi_model.proofs.LawLemmas.{At, Begun, Ended as UnitEnded}
use Rattle.cfi_model.proofs.PlaceLemmas.{idle_lies}
use Rattle.cfi_model_law.specs.Window.{AsksInForce}
use Rattle.cfi_model_law.proofs.CheckTryLemmas.{keeps_both, try_goes_on, waits_for_none}
use Rattle.cfi_model_law.proofs.TryLemmas.{HasBoth, HoldsTry}
use Rattle.cfi_model_law.proofs.WindowLemmas.{window_is}

module _ (t : Tables) (is : IsTables t) (h : History) (code : List ℕ) (known : IsHistory h code) (of : IsOfTables t h code)
    (all : List Access) (timed : AreTimed t all) where
  -- ---- a guest within a unit, and what the check's try has loaded

  abbrev pub Tries : (unit : CodeUnit) (p : State) (retries : ℕ) (r : Raw) → Begun h p unit retries r → List Access → Type 0
  Tries (units.Check link rs1 imm slot) p retries r begun loads =
      HoldsTry t.code_words (found_at begun.place) loads slot (displaced (register p rs1) imm) begun.values
  Tries unit p retries r begun loads = Unit {0}

  pub record IsIn (p : State) (retries : ℕ) (r : Raw) (loads : List Access) : Type 0 where
    pub unit : CodeUnit
    pub at : At h code p unit
    pub begun : Begun h p unit retries r
    pub tries : Tries unit p retries r begun loads

  abbrev pub Runs : (p : State) (retries : ℕ) (r : Raw) → List Access → Type 0
  Runs p retries r loads = (IsReady h p × IsBetween retries p r) ⊎ IsIn p retries r loads

  pub running : (p : State) (retries : ℕ) (r : Raw) (loads : List Access) → Runs p retries r loads
      → Running h code p retries r
  running p retries r loads (inl rests) = inl rests
  running p retries r loads (inr within) = inr (within.unit, within.at, within.begun)

  -- a unit has ended, a check under the policy in force
  pub record EndsInForce (p : State) (retries : ℕ) (r : Raw) (x : Take) (loads : List Access) : Type 0 where
    pub ended : UnitEnded h code retries (end_of r x) p (take_one r x)
    pub window : AsksInForce h t ended.step.epoch (loaded_end loads (end_of r x)) ended.step.unit p

  -- the unit that has ended is the one that was begun
  same_unit : (p : State) (retries : ℕ) (r : Raw) (end : End) (unit : CodeUnit) (at : At h code p unit)
      (e : UnitEnded h code retries end p r) → unit ≡ e.step.unit
  same_unit p retries r end unit at e =
      BeginsAt-one code (p.pc / 4) unit e.step.unit at.here.stands.begins e.step.stands.begins

  -- one that is no check
  abbrev IsNoCheck : CodeUnit → Type 0
  IsNoCheck unit = (h : History) (t : Tables) (epoch : ℕ) (one : LoadedEnd) (s : State) → AsksInForce h t epoch one unit s

  ends_unasked : (p : State) (retries : ℕ) (r : Raw) (x : Take) (loads : List Access) (unit : CodeUnit)
      (at : At h code p unit) → IsNoCheck unit → UnitEnded h code retries (end_of r x) p (take_one r x)
      → EndsInForce p retries r x loads
  ends_unasked p retries r x loads unit at other e = record {
    ended = e;
    window = subst (λ (u : CodeUnit). AsksInForce h t e.step.epoch (loaded_end loads (end_of r x)) u p)
        (same_unit p retries (take_one r x) (end_of r x) unit at e)
        (other h t e.step.epoch (loaded_end loads (end_of r x)) p);
  }

  -- after an access: within the unit, or past it
  abbrev pub Then : (p : State) (retries : ℕ) (r : Raw) → Take → (loads more : List Access) → Type 0
  Then p retries r x loads more = IsIn p retries (take_one r x) more ⊎ EndsInForce p retries r x loads

  -- a unit that is no check goes on, or ends
  other_then : (p : State) (retries : ℕ) (r : Raw) (x : Take) (loads more : List Access) (unit : CodeUnit)
      (at : At h code p unit) → IsNoCheck unit
      → ((begun : Begun h p unit retries (take_one r x)) → Tries unit p retries (take_one r x) begun more)
      → Begun h p unit retries (take_one r x) ⊎ UnitEnded h code retries (end_of r x) p (take_one r x)
      → Then p retries r x loads more
  other_then p retries r x loads more unit at other tries (inl begun) =
      inl (record { unit = unit; at = at; begun = begun; tries = tries begun })
  other_then p retries r x loads more unit at other tries (inr e) =
      inr (ends_unasked p retries r x loads unit at other e)

  -- ---- a load that was asked for

  module _ (p : State) (retries : ℕ) (r : Raw) (access : Access) (loads later : List Access)
      (whole : loads ++ later ≡ all) (asked : AsksFor t.code_words r.waits r access.word)
      (fits : Fits h code r (Word access.found)) where
    abbrev x : Take
    x = Word access.found

    abbrev more : List Access
    more = loads ++ access ∷ []

    abbrev Next : Type 0
    Next = Then p retries r x loads more

    -- a fetch is of the code
    code_asked : (unit : CodeUnit) → At h code p unit → LiesIn p.pc unit r.base.pc → r.waits ≡ None
        → IsCode t.code_words access.word
    code_asked unit at lies idle =
        let word : access.word ≡ code_word (r.base.pc / 4) = subst (λ w. AsksFor t.code_words w r access.word) idle asked in
        let within = BeginsAt-within code (p.pc / 4) unit at.here.stands.begins in
        let place : r.base.pc / 4 ≡ p.pc / 4 + lies.place = omega (arith, lies.is, at.here.stands.aligned) in
        (omega (arith, word), omega (arith, word, place, within, lies.within, of.code_words))

    -- a check begins
    check_begun : (link : Bool) (rs1 : ℕ) (imm : ℤ) (slot : ℕ) → At h code p (units.Check link rs1 imm slot)
        → r ≡ start_raw p retries r.x28 r.x29 r.x30 r.x31 → Next
    check_begun link rs1 imm slot at starts =
        let begun = check_begins h code p link rs1 imm slot at.here retries r.x28 r.x29 r.x30 r.x31 r
        (starts ∙ first_place p retries r.x28 r.x29 r.x30 r.x31) x fits in
        inl (record {
          unit = units.Check link rs1 imm slot;
          at = at;
          begun = begun.0;
          tries = subst (λ (f : Found). HoldsTry t.code_words f more slot (displaced (register p rs1) imm) begun.0.values)
              (sym begun.1) tt;
        })

    first_then : (unit : CodeUnit) → At h code p unit → r ≡ start_raw p retries r.x28 r.x29 r.x30 r.x31 → Next
    first_then (units.Check link rs1 imm slot) at starts = check_begun link rs1 imm slot at starts
    first_then (units.Plain insn) at starts =
        other_then p retries r x loads more (units.Plain insn) at (λ h t e o s. tt) (λ begun. tt)
        (first_access h code p retries (units.Plain insn) at r.x28 r.x29 r.x30 r.x31 r starts x fits)
    first_then (units.Branch c rs1 rs2 off) at starts =
        other_then p retries r x loads more (units.Branch c rs1 rs2 off) at (λ h t e o s. tt) (λ begun. tt)
        (first_access h code p retries (units.Branch c rs1 rs2 off) at r.x28 r.x29 r.x30 r.x31 r starts x fits)
    first_then (units.Jump link off) at starts =
        other_then p retries r x loads more (units.Jump link off) at (λ h t e o s. tt) (λ begun. tt)
        (first_access h code p retries (units.Jump link off) at r.x28 r.x29 r.x30 r.x31 r starts x fits)
    first_then (units.Load kind rd rs1 imm) at starts =
        other_then p retries r x loads more (units.Load kind rd rs1 imm) at (λ h t e o s. tt) (λ begun. tt)
        (first_access h code p retries (units.Load kind rd rs1 imm) at r.x28 r.x29 r.x30 r.x31 r starts x fits)
    first_then (units.Store kind rs1 rs2 imm) at starts =
        other_then p retries r x loads more (units.Store kind rs1 rs2 imm) at (λ h t e o s. tt) (λ begun. tt)
        (first_access h code p retries (units.Store kind rs1 rs2 imm) at r.x28 r.x29 r.x30 r.x31 r starts x fits)
    first_then units.Service at starts =
        other_then p retries r x loads more units.Service at (λ h t e o s. tt) (λ begun. tt)
        (first_access h code p retries units.Service at r.x28 r.x29 r.x30 r.x31 r starts x fits)

    -- a check goes on
    module _ (link : Bool) (rs1 : ℕ) (imm : ℤ) (slot : ℕ) (at : At h code p (units.Check link rs1 imm slot))
        (begun : Begun h p (units.Check link rs1 imm slot) retries r)
        (tries : HoldsTry t.code_words (found_at begun.place) loads slot (displaced (register p rs1) imm) begun.values)
      where
        abbrev unit : CodeUnit
        unit = units.Check link rs1 imm slot

        abbrev target : ℕ
        target = displaced (register p rs1) imm

        check_within : CheckGoesOn h p retries slot target begun.values begun.place r x → Next
        check_within next =
            let idle_code = (λ (idle : r.waits ≡ None). code_asked unit at (idle_lies p h unit retries r begun idle) idle) in
            inl (record {
              unit = unit;
              at = at;
              begun = next.now;
              tries = try_goes_on t.code_words loads access slot target r asked idle_code (found_at begun.place)
                  (found_at next.now.place) begun.values next.now.values next.follows tries;
            })

        slot_low : slot < slots_of t.code_words
        slot_low = omega (arith, at.inside.1, (known.closed at.epoch at.is).1.classes.bary_length, of.code_words)

        -- it ends under the policy in force
        check_in_force : (e : UnitEnded h code retries (end_of r x) p (take_one r x))
            → (stops : CheckStops h p retries slot target link begun.place (end_of r x) (take_one r x))
            → AsksInForce h t e.step.epoch (loaded_end loads (end_of r x)) unit p
        check_in_force e stops inside =
            let both = stops.tried inside in
            let v : Values = begun.values in
            let has : HasBoth t.code_words loads slot target v.bary v.tary =
            subst (λ (f : Found). HoldsTry t.code_words f loads slot target v) both tries in
            let kept = keeps_both p (retries + begun.more) slot target v begun.place both in
            let tried : IsTriedIn h e.step.epoch slot target (end_of r x) =
            subst (λ (u : CodeUnit). AsksUnder h e.step.epoch (end_of r x) u p)
            (sym (same_unit p retries (take_one r x) (end_of r x) unit at e)) e.step.under inside in
            window_is t is h code known of all timed (loaded_end loads (end_of r x)) later whole slot target slot_low
            v.bary v.tary has (ap (λ y. y.bary) begun.is ∙ kept.0) (ap (λ y. y.tary) begun.is ∙ kept.1) e.step.epoch
            e.step.known tried

        check_then : Next
        check_then = elim (check_next h code p retries link rs1 imm slot at r begun x fits) [
          | inl next ↦ check_within next
          | inr stops ↦
              let e = check_ends h code p retries link rs1 imm slot at r begun x stops in
              inr (record {
                ended = e;
                window = subst (λ (u : CodeUnit). AsksInForce h t e.step.epoch (loaded_end loads (end_of r x)) u p)
                    (same_unit p retries (take_one r x) (end_of r x) unit at e) (check_in_force e stops);
              })
        ]

    next_then : (unit : CodeUnit) (at : At h code p unit) (begun : Begun h p unit retries r)
        → Tries unit p retries r begun loads → Next
    next_then (units.Check link rs1 imm slot) at begun tries = check_then link rs1 imm slot at begun tries
    next_then (units.Plain insn) at begun tries = absurd begun
    next_then (units.Branch c rs1 rs2 off) at begun tries = absurd begun
    next_then (units.Jump link off) at begun tries = absurd begun
    next_then (units.Load kind rd rs1 imm) at begun tries =
        other_then p retries r x loads more (units.Load kind rd rs1 imm) at (λ h t e o s. tt) (λ b. tt)
        (next_access h code p retries (units.Load kind rd rs1 imm) at r begun x fits)
    next_then (units.Store kind rs1 rs2 imm) at begun tries =
        other_then p retries r x loads more (units.Store kind rs1 rs2 imm) at (λ h t e o s. tt) (λ b. tt)
        (next_access h code p retries (units.Store kind rs1 rs2 imm) at r begun x fits)
    next_then units.Service at begun tries =
        other_then p retries r x loads more units.Service at (λ h t e o s. tt) (λ b. tt)
        (next_access h code p retries units.Service at r begun x fits)

    -- a load within a unit, or the first one of a unit
    pub load_then : Runs p retries r loads → Next
    load_then (inl rests) =
        let going = goes_on h code p retries r rests.1 x fits in
        let at = at_start h code p retries known rests.0 going in
        first_then at.0 at.1 (start_is h code p retries r rests.1 going)
    load_then (inr within) = next_then within.unit within.at within.begun within.tries

  -- ---- the end of a service

  -- a service waits there
  pub served_waits : (wait : Option Wait) (r : Raw) (reply : Reply) → FitsReply wait r reply
      → (number : ℕ) × (wait ≡ Some (waits.Service number))
  served_waits None r reply fits = absurd fits
  served_waits (Some (waits.Tary at rd)) r reply fits = absurd fits
  served_waits (Some (waits.Bary slot rd)) r reply fits = absurd fits
  served_waits (Some (waits.Service number)) r reply fits = (number, refl)

  -- which no check does
  module _ (p : State) (retries : ℕ) (r : Raw) (number : ℕ) (wait : r.waits ≡ Some (waits.Service number)) where
    no_check : (link : Bool) (rs1 : ℕ) (imm : ℤ) (slot : ℕ) → Begun h p (units.Check link rs1 imm slot) retries r → ⊥
    no_check link rs1 imm slot begun =
        waits_for_none p (retries + begun.more) slot (displaced (register p rs1) imm) begun.values begun.place number
        (sym (ap (λ y. y.waits) begun.is) ∙ wait)

    -- the service ends
    served_in : (loads : List Access) (reply : Reply) → Fits h code r (Served reply) → (unit : CodeUnit)
        (at : At h code p unit) (begun : Begun h p unit retries r) → Then p retries r (Served reply) loads loads
    served_in loads reply fits (units.Check link rs1 imm slot) at begun = absurd (no_check link rs1 imm slot begun)
    served_in loads reply fits (units.Plain insn) at begun = absurd begun
    served_in loads reply fits (units.Branch c rs1 rs2 off) at begun = absurd begun
    served_in loads reply fits (units.Jump link off) at begun = absurd begun
    served_in loads reply fits (units.Load kind rd rs1 imm) at begun =
        other_then p retries r (Served reply) loads loads (units.Load kind rd rs1 imm) at (λ h t e o s. tt) (λ b. tt)
        (next_access h code p retries (units.Load kind rd rs1 imm) at r begun (Served reply) fits)
    served_in loads reply fits (units.Store kind rs1 rs2 imm) at begun =
        other_then p retries r (Served reply) loads loads (units.Store kind rs1 rs2 imm) at (λ h t e o s. tt) (λ b. tt)
        (next_access h code p retries (units.Store kind rs1 rs2 imm) at r begun (Served reply) fits)
    served_in loads reply fits units.Service at begun =
        other_then p retries r (Served reply) loads loads units.Service at (λ h t e o s. tt) (λ b. tt)
        (next_access h code p retries units.Service at r begun (Served reply) fits)

  pub served_then : (p : State) (retries : ℕ) (r : Raw) (loads : List Access) (reply : Reply)
      → Fits h code r (Served reply) → Runs p retries r loads → Then p retries r (Served reply) loads loads
  served_then p retries r loads reply fits (inl rests) =
      absurd (subst (λ w. FitsReply w r reply) rests.1.idle fits)
  served_then p retries r loads reply fits (inr within) =
      let wait = served_waits r.waits r reply fits in
      served_in p retries r wait.0 wait.1 loads reply fits within.unit within.at within.begun
