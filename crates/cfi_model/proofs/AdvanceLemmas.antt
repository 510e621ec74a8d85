-- One access leaves the raw machine within a unit, or ends the unit as the policy machine does.
use Rattle.std.proofs.Common.{◌≡◌, ◌≢◌, ℕ, ℤ, ◌*◌, ◌<◌, Bool, Option, None, List, [], ◌∷◌, length, refl, sym, ◌∙◌, ap, subst, arith, ◌⊎◌, inl, inr}
use Rattle.rv_insn.specs.declared.insn.Insn.TheVariants as insns
use Rattle.cfi_unit.specs.declared.unit.Unit.{Unit as CodeUnit}
use Rattle.cfi_unit.specs.declared.unit.Unit.TheVariants as units
use Rattle.cfi_unit.proofs.UnitLemmas.{size_pos}
use Rattle.cfi_model.specs.declared.act.Wait.{Wait}
use Rattle.cfi_word.specs.declared.services.TheConstants.{OPEN}
use Rattle.cfi_model.specs.State.{State, register, displaced, after}
use Rattle.cfi_model.specs.Raw.{Raw}
use Rattle.cfi_model.specs.Service.{Reply, asked, too_many}
use Rattle.cfi_model.specs.Effect.{effect}
use Rattle.cfi_model.specs.Run.{Take, Word, Served, take_one}
use Rattle.cfi_model.specs.History.{History, IsEpoch, IsStart, IsHistory, allows_at}
use Rattle.cfi_model.specs.Fits.{Fits, FitsWord, FitsReply, FitsOpen}
use Rattle.cfi_model.specs.Running.{IsHeld}
use Rattle.cfi_model.specs.Shows.{Stands, LiesIn, IsReady, IsBetween, moved_to, end_of}
use Rattle.cfi_model.proofs.StartLemmas.{started}
use Rattle.cfi_model.proofs.FetchLemmas.{Here, start_raw, first_place, first_walks}
use Rattle.cfi_model.proofs.MaskedLemmas.{masked_begins, masked_goes_on}
use Rattle.cfi_model.proofs.AccessLemmas.{load_ends, store_ends}
use Rattle.cfi_model.proofs.CheckPlaces.{CheckGoesOn, CheckStops}
use Rattle.cfi_model.proofs.CheckWalk.{check_begins, check_goes_on}
use Rattle.cfi_model.proofs.PickLemmas.{pick_logged}
use Rattle.cfi_model.proofs.SingleLemmas.{plain_ends, branch_ends, jump_ends, service_raw, ecall_waits, serve_ends}
use Rattle.cfi_model.proofs.InsideLemmas.{shown_within}
use Rattle.cfi_model.proofs.LawLemmas.{Ended, Begun, At, target_starts, ends_as, plainly}
use Rattle.cfi_model.proofs.PlaceLemmas.{IsNoService, lies_in, stays_put, effect_stays}
use Rattle.cfi_model.proofs.ReadyLemmas.{falls}

-- after an access: within the unit, or past it
abbrev pub Next : History → (code : List ℕ) → (retries : ℕ) → State → CodeUnit → (old : Raw) → Take → Type 0
Next h code retries p unit old t =
    Begun h p unit retries (take_one old t) ⊎ Ended h code retries (end_of old t) p (take_one old t)

-- an answer fits the policy state where it fits the raw one
fits_open : (reply : Reply) (p : State) (pc units steps : ℕ)
    → FitsOpen reply (record p { pc = pc; units = units; steps = steps }) → FitsOpen reply p
fits_open reply p pc units steps fits = record {
  answer = record {
    inside = fits.answer.inside;
    few = fits.answer.few;
    rises = fits.answer.rises;
    most = fits.answer.most;
  };
  exact = fits.exact;
}

module _ (h : History) (code : List ℕ) (p : State) (retries : ℕ) where
  -- where an access within a unit other than a service has stopped the guest
  held_in : (unit : CodeUnit) → At h code p unit → IsNoService unit → (r : Raw) → Begun h p unit retries r
      → (t : Take) (pick : ℕ) (allows : ℕ → ℕ → Bool) (reply : Reply) (n : ℕ)
      → IsBetween n (effect unit pick allows reply p) (take_one r t)
      → (effect unit pick allows reply p).stop ≢ None → IsHeld h code (effect unit pick allows reply p) (take_one r t)
  held_in unit at other r begun t pick allows reply n between stops =
      let new : State = effect unit pick allows reply p in
      let same : new.pc ≡ p.pc = effect_stays unit pick allows reply p at.here.going other stops in
      let going = ap (λ b. b.stop) (shown_within h code p unit retries r at begun).base ∙ at.here.going in
      let put = stays_put r going t (λ none. stops (sym (ap (λ b. b.stop) between.base) ∙ none)) in
      let lies = subst (LiesIn p.pc unit) (sym put) (lies_in p h unit retries r begun other) in
      record {
        starts = subst (IsStart h) (sym same) (at.here.ready.start at.here.going);
        unit = unit;
        stands = subst (λ a. Stands code a unit) (sym same) at.here.stands;
        lies = subst (λ a. LiesIn a unit (take_one r t).base.pc) (sym same) lies;
      }

  -- a service ends at the start of the next unit
  held_after : At h code p units.Service → (r : Raw) (q : State) → r.base.pc ≡ after 4 p.pc → q.pc ≡ after 4 p.pc
      → IsHeld h code q r
  held_after at r q there same =
      let start = falls h code at.here.known at.epoch at.is p.pc 4 at.inside in
      let from = started h code (after 4 p.pc) at.here.known start in
      record {
        starts = subst (IsStart h) (sym same) start;
        unit = from.unit;
        stands = subst (λ a. Stands code a from.unit) (sym same) from.stands;
        lies = record { place = 0; within = size_pos from.unit; is = there ∙ sym same ∙ omega arith };
      }

  -- the first access of a unit
  pub first_access : (unit : CodeUnit) → At h code p unit → (x28 x29 x30 x31 : ℕ) (r : Raw)
      → r ≡ start_raw p retries x28 x29 x30 x31 → (t : Take) → Fits h code r t
      → Next h code retries p unit r t
  first_access (units.Plain insn) at x28 x29 x30 x31 r is t fits =
      let unit : CodeUnit = units.Plain insn in
      let new = first_walks h code p unit at.here (insn ∷ []) refl (omega arith) retries x28 x29 x30 x31 r is t fits in
      inr (plainly h code retries p unit at (end_of r t) tt too_many tt tt tt (take_one r t)
      (subst (IsBetween retries (effect unit (h.policy at.epoch) (allows_at h at.epoch) too_many p)) (sym new)
      (plain_ends p retries x28 x29 x30 x31 at.here.going (h.policy at.epoch) (allows_at h at.epoch) too_many insn
      at.here.stands.begins.fits)) (λ stops. absurd (stops at.here.going)))
  first_access (units.Branch c rs1 rs2 off) at x28 x29 x30 x31 r is t fits =
      let unit : CodeUnit = units.Branch c rs1 rs2 off in
      let new = first_walks h code p unit at.here _ refl (omega arith) retries x28 x29 x30 x31 r is t fits in
      inr (plainly h code retries p unit at (end_of r t) tt too_many tt tt tt (take_one r t)
      (subst (IsBetween retries (effect unit (h.policy at.epoch) (allows_at h at.epoch) too_many p)) (sym new)
      (branch_ends p retries x28 x29 x30 x31 at.here.going (h.policy at.epoch) (allows_at h at.epoch) too_many c rs1 rs2
      off at.here.stands.begins.fits.0 at.here.stands.begins.fits.1)) (λ stops. absurd (stops at.here.going)))
  first_access (units.Jump link off) at x28 x29 x30 x31 r is t fits =
      let unit : CodeUnit = units.Jump link off in
      let new = first_walks h code p unit at.here _ refl (omega arith) retries x28 x29 x30 x31 r is t fits in
      inr (plainly h code retries p unit at (end_of r t) tt too_many tt tt tt (take_one r t)
      (subst (IsBetween retries (effect unit (h.policy at.epoch) (allows_at h at.epoch) too_many p)) (sym new)
      (jump_ends p retries x28 x29 x30 x31 at.here.going (h.policy at.epoch) (allows_at h at.epoch) too_many link off))
      (λ stops. absurd (stops at.here.going)))
  first_access (units.Load kind rd rs1 imm) at x28 x29 x30 x31 r is t fits =
      inl (masked_begins h code p (units.Load kind rd rs1 imm) rs1 imm _ at.here refl at.here.stands.begins.fits.1
      retries x28 x29 x30 x31 r (is ∙ first_place p retries x28 x29 x30 x31) t fits)
  first_access (units.Store kind rs1 rs2 imm) at x28 x29 x30 x31 r is t fits =
      inl (masked_begins h code p (units.Store kind rs1 rs2 imm) rs1 imm _ at.here refl at.here.stands.begins.fits.0
      retries x28 x29 x30 x31 r (is ∙ first_place p retries x28 x29 x30 x31) t fits)
  first_access (units.Check link rs1 imm slot) at x28 x29 x30 x31 r is t fits =
      inl (check_begins h code p link rs1 imm slot at.here retries x28 x29 x30 x31 r
      (is ∙ first_place p retries x28 x29 x30 x31) t fits).0
  first_access units.Service at x28 x29 x30 x31 r is t fits =
      inl (record {
        x28 = x28;
        x29 = x29;
        x30 = x30;
        x31 = x31;
        is = first_walks h code p units.Service at.here (insns.Ecall ∷ []) refl (omega arith) retries x28 x29 x30 x31 r
            is t fits ∙ ecall_waits p retries x28 x29 x30 x31;
      })

  -- the slots of all epochs are those of the code
  slot_within : (known : IsHistory h code) (one other slot : ℕ) → IsEpoch h one → IsEpoch h other
      → slot < length (h.image one).bary → slot < length (h.image other).bary
  slot_within known one other slot is is2 within =
      omega (arith, (known.closed one is).1.classes.bary_length, (known.closed other is2).1.classes.bary_length)

  -- each further access of a check
  pub check_next : (link : Bool) (rs1 : ℕ) (imm : ℤ) (slot : ℕ) → At h code p (units.Check link rs1 imm slot) → (r : Raw)
      → (begun : Begun h p (units.Check link rs1 imm slot) retries r) → (t : Take) → Fits h code r t
      → CheckGoesOn h p retries slot (displaced (register p rs1) imm) begun.values begun.place r t
      ⊎ CheckStops h p retries slot (displaced (register p rs1) imm) link begun.place (end_of r t) (take_one r t)
  check_next link rs1 imm slot at r begun t fits =
      check_goes_on h code p link rs1 imm slot at.here retries begun.more (displaced (register p rs1) imm) begun.two
      begun.values begun.place r begun.is begun.holds t fits

  -- its last one
  pub check_ends : (link : Bool) (rs1 : ℕ) (imm : ℤ) (slot : ℕ) → At h code p (units.Check link rs1 imm slot) → (r : Raw)
      → (begun : Begun h p (units.Check link rs1 imm slot) retries r) → (t : Take)
      → CheckStops h p retries slot (displaced (register p rs1) imm) link begun.place (end_of r t) (take_one r t)
      → Ended h code retries (end_of r t) p (take_one r t)
  check_ends link rs1 imm slot at r begun t stops =
      let unit : CodeUnit = units.Check link rs1 imm slot in
      let target : ℕ = displaced (register p rs1) imm in
      let e = stops.ended in
      ends_as h code retries e.more p unit at e.epoch e.known (end_of r t) e.under too_many tt e.rises
      (target_starts h code at.here.known e.epoch slot target e.known
      (slot_within at.here.known at.epoch e.epoch slot at.is e.known at.inside.1))
      e.two
      (λ some. pick_logged (h.policy e.epoch) (allows_at h e.epoch) too_many p link rs1 imm slot (e.logged some))
      (take_one r t) e.ends
      (held_in unit at tt r begun t (h.policy e.epoch) (allows_at h e.epoch) too_many _ e.ends)

  -- each further access of a unit
  pub next_access : (unit : CodeUnit) → At h code p unit → (r : Raw) → Begun h p unit retries r
      → (t : Take) → Fits h code r t → Next h code retries p unit r t
  next_access (units.Plain insn) at r begun t fits = absurd begun
  next_access (units.Branch c rs1 rs2 off) at r begun t fits = absurd begun
  next_access (units.Jump link off) at r begun t fits = absurd begun
  next_access (units.Load kind rd rs1 imm) at r begun t fits =
      let unit : CodeUnit = units.Load kind rd rs1 imm in
      let small = at.here.small in
      elim (masked_goes_on h code p unit rs1 imm _ at.here refl retries _ begun.x28 begun.x29 begun.x30 begun.place r
      begun.is t fits) [
        | inl next ↦ inl next
        | inr new ↦
            let between =
            subst (IsBetween retries (effect unit (h.policy at.epoch) (allows_at h at.epoch) too_many p)) (sym new)
            (load_ends p retries begun.x28 begun.x29 begun.x30 kind rd rs1 imm (h.policy at.epoch)
            (allows_at h at.epoch) too_many at.here.stands.begins.fits.0 (omega arith) at.here.going) in
            inr (plainly h code retries p unit at (end_of r t) tt too_many tt tt tt (take_one r t) between
            (held_in unit at tt r begun t (h.policy at.epoch) (allows_at h at.epoch) too_many retries between))
      ]
  next_access (units.Store kind rs1 rs2 imm) at r begun t fits =
      let unit : CodeUnit = units.Store kind rs1 rs2 imm in
      let small = at.here.small in
      elim (masked_goes_on h code p unit rs1 imm _ at.here refl retries _ begun.x28 begun.x29 begun.x30 begun.place r
      begun.is t fits) [
        | inl next ↦ inl next
        | inr new ↦
            let between =
            subst (IsBetween retries (effect unit (h.policy at.epoch) (allows_at h at.epoch) too_many p)) (sym new)
            (store_ends p retries begun.x28 begun.x29 begun.x30 kind rs1 rs2 imm (h.policy at.epoch)
            (allows_at h at.epoch) too_many at.here.stands.begins.fits.1 (omega arith) at.here.going) in
            inr (plainly h code retries p unit at (end_of r t) tt too_many tt tt tt (take_one r t) between
            (held_in unit at tt r begun t (h.policy at.epoch) (allows_at h at.epoch) too_many retries between))
      ]
  next_access (units.Check link rs1 imm slot) at r begun t fits =
      elim (check_next link rs1 imm slot at r begun t fits) [
        | inl next ↦ inl next.now
        | inr stops ↦ inr (check_ends link rs1 imm slot at r begun t stops)
      ]
  next_access units.Service at r begun (Word word) fits = absurd (subst (λ x. Fits h code x (Word word)) begun.is fits)
  next_access units.Service at r begun (Served reply) fits =
      let given : asked p ≡ OPEN → FitsOpen reply (service_raw p retries begun.x28 begun.x29 begun.x30 begun.x31).base =
      subst (λ x. Fits h code x (Served reply)) begun.is fits in
      let new = ap (λ x. take_one x (Served reply)) begun.is in
      inr (plainly h code retries p units.Service at (end_of r (Served reply)) tt reply
      (record { came = refl; fits = λ is. fits_open reply p _ _ _ (given is) }) tt tt
      (take_one r (Served reply))
      (subst (IsBetween retries (effect units.Service (h.policy at.epoch) (allows_at h at.epoch) reply p)) (sym new)
      (serve_ends p retries begun.x28 begun.x29 begun.x30 begun.x31 (h.policy at.epoch) (allows_at h at.epoch) reply))
      (λ stops. held_after at (take_one r (Served reply)) _ (ap (λ x. x.base.pc) new) refl))

  -- the machine runs: it is between two units, or within one
  abbrev pub Running : Raw → Type 0
  Running r = (IsReady h p × IsBetween retries p r) ⊎ ((unit : CodeUnit) × At h code p unit × Begun h p unit retries r)

  -- a guest between two units that takes something has not stopped
  pub goes_on : (r : Raw) → IsBetween retries p r → (t : Take) → Fits h code r t → p.stop ≡ None
  goes_on r between (Word word) fits =
      let given : FitsWord h code None r word = subst (λ w. FitsWord h code w r word) between.idle fits in
      sym (ap (λ b. b.stop) between.base) ∙ given.0
  goes_on r between (Served reply) fits = absurd (subst (λ w. FitsReply w r reply) between.idle fits)

  -- it is then the raw state before a unit
  pub start_is : (r : Raw) → IsBetween retries p r → p.stop ≡ None
      → r ≡ start_raw p retries r.x28 r.x29 r.x30 r.x31
  start_is r between going =
      let fresh = between.fresh going in
      let base : r.base ≡ moved_to p.pc (9 * retries) p =
      between.base ∙ ap (λ a. moved_to a (9 * retries) p) fresh.0 in
      let raw : State → Option ℕ → Option ℕ → Option Wait → Raw = λ b bary tary waits. record {
        base = b;
        x28 = r.x28;
        x29 = r.x29;
        x30 = r.x30;
        x31 = r.x31;
        bary = bary;
        tary = tary;
        waits = waits;
      } in
      ap (λ b. raw b r.bary r.tary r.waits) base
      ∙ ap (λ x. raw (moved_to p.pc (9 * retries) p) x r.tary r.waits) fresh.1
      ∙ ap (λ x. raw (moved_to p.pc (9 * retries) p) None x r.waits) fresh.2
      ∙ ap (λ x. raw (moved_to p.pc (9 * retries) p) None None x) between.idle

  -- the unit at which it stands
  pub at_start : IsHistory h code → IsReady h p → p.stop ≡ None → (unit : CodeUnit) × At h code p unit
  at_start known ready going =
      let from = started h code p.pc known (ready.start going) in
      let here : Here h code p from.unit = record {
        known = known;
        ready = ready;
        going = going;
        stands = from.stands;
        small = from.small;
      } in (
        from.unit,
        record {
          here = here;
          epoch = from.epoch;
          is = from.is;
          inside = (known.closed from.epoch from.is).1.inside p.pc from.unit from.stands_in;
        },
      )

  -- one access of a running machine
  pub advance : IsHistory h code → (r : Raw) → Running r → (t : Take) → Fits h code r t
      → ((unit : CodeUnit) × At h code p unit × Begun h p unit retries (take_one r t))
      ⊎ Ended h code retries (end_of r t) p (take_one r t)
  advance known r (inl rests) t fits =
      let going = goes_on r rests.1 t fits in
      let at = at_start known rests.0 going in
      elim (first_access at.0 at.1 r.x28 r.x29 r.x30 r.x31 r (start_is r rests.1 going) t fits) [
        | inl begun ↦ inl (at.0, at.1, begun)
        | inr ended ↦ inr ended
      ]
  advance known r (inr within) t fits =
      elim (next_access within.0 within.1 r within.2 t fits) [
        | inl begun ↦ inl (within.0, within.1, begun)
        | inr ended ↦ inr ended
      ]
