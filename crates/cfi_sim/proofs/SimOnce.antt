-- A simulation is one, and there is none beside a first bad line.
use Rattle.std.proofs.Common.{◌≡◌, ℕ, List, map, get_or, slice_get, Some, All, sym, ap, subst, ◌∙◌, arith}
use Rattle.std.proofs.lemmas.List.{same_lists}
use Rattle.std.proofs.lemmas.Option.{slice_get-get_or}
use Rattle.cfi_aux.specs.declared.modules.Module.{Module}
use Rattle.cfi_aux.specs.declared.placed.Placed.{Placed}
use Rattle.cfi_aux.specs.Sound.{IsSoundModule}
use Rattle.cfi_graph.specs.Direct.{DirectEdge}
use Rattle.cfi_model.specs.Phases.{phase_of}
use Rattle.cfi_model.specs.Raw.{Raw, raw_opened}
use Rattle.cfi_model.specs.World.{World, opened_world}
use Rattle.cfi_guest_part.specs.Part.{part_of}
use Rattle.cfi_plan.specs.Plan.{IsPlan}
use Rattle.cfi_plan.specs.declared.plan.Plan.{Plan}
use Rattle.cfi_policy.specs.Image.{IsImage}
use Rattle.cfi_report.specs.declared.report.GuestPart.{GuestPart}
use Rattle.cfi_modules.specs.Image.{IsOrderedImage}
use Rattle.cfi_sim.specs.declared.limits.TheConstants.{MAX_UPDATES}
use Rattle.cfi_sim.specs.declared.report.SimReport.{SimReport}
use Rattle.cfi_sim.specs.Fault.{IsFirstBad}
use Rattle.cfi_sim.specs.Once.{SimulationsAreOne, NoneBesideABadLine}
use Rattle.cfi_sim.specs.Schedule.{LinesMake}
use Rattle.cfi_sim.specs.Stage.{Stage}
use Rattle.cfi_sim.specs.Valid.{IsGuestAt, IsStart, IsValidSim}
use Rattle.cfi_sim.proofs.ImageOnce.{image_once}
use Rattle.cfi_sim.proofs.LinesOnce.{lines_once, stuck_never}
use Rattle.cfi_sim.proofs.journal.StartLemmas.{are, start_holds}
use Rattle.cfi_text.specs.Lines.{numbered_lines}
use Rattle.cfi_valid.specs.Guests.{GuestBegins}
use Rattle.cfi_valid.specs.Journal.{JournalState, members_of}
use Rattle.cfi_valid.specs.Loaded.{placed_modules, start_fills, Left, module_line_of}
use Rattle.cfi_valid.proofs.EntryLemmas.{begins_once}
use Rattle.cfi_valid.proofs.JournalLemmas.{opening_once}
use Rattle.cfi_word.specs.declared.lists.Image.{Image}

name_same : (a b : List ℕ) → Some a ≡ Some b → a ≡ b
name_same a b both = cc

-- ---- one start

module _ (plan : Plan) (s : JournalState) (number : ℕ) where
  guest_once : (a b : Raw) → IsGuestAt plan s number a → IsGuestAt plan s number b → a ≡ b
  guest_once a b p q =
      let entry = name_same p.entry q.entry (sym p.named ∙ q.named) in
      let address = begins_once plan s.loaded q.entry p.address q.address
      (subst (λ (name : List ℕ). GuestBegins plan s.loaded name p.address) entry p.begins) q.begins in
      p.is ∙ ap (λ (at : ℕ). raw_opened number at (start_fills Left (members_of s))) address ∙ sym q.is

module _ (plan : Plan) (modules : List Module) (is : IsPlan plan) (sound : All IsSoundModule modules) (a b : Stage)
    (p : IsStart plan modules a) (q : IsStart plan modules b) where
  state_same : a.state ≡ b.state
  state_same = opening_once plan modules a.state b.state p.opens q.opens

  image_same : p.image ≡ q.image
  image_same =
      let ms : List Placed = placed_modules b.state.loaded in
      image_once plan.code_words ms (are plan modules is sound b q) p.image q.image
      (subst (λ (s : JournalState). IsImage (DirectEdge (placed_modules s.loaded)) (placed_modules s.loaded)
      plan.code_words p.image) state_same p.of_starts) q.of_starts
      (subst (λ (s : JournalState). IsOrderedImage (placed_modules s.loaded) p.image) state_same p.ordered) q.ordered

  guests_same : p.guests ≡ q.guests
  guests_same =
      same_lists p.guests q.guests (p.count ∙ sym q.count)
      (λ k d within.
      guest_once plan b.state k (get_or p.guests k d) (get_or q.guests k d)
      (subst (λ (s : JournalState). IsGuestAt plan s k (get_or p.guests k d)) state_same
      (p.each k (get_or p.guests k d) (slice_get-get_or p.guests k d within)))
      (q.each k (get_or q.guests k d)
      (slice_get-get_or q.guests k d (omega (arith, within, p.count, q.count)))))

  world_same : a.world ≡ b.world
  world_same =
      p.world
      ∙ ap (λ (i : Image). opened_world plan.code_words plan.versions plan.first i p.guests MAX_UPDATES plan.fuel)
      image_same
      ∙ ap (λ (gs : List Raw). opened_world plan.code_words plan.versions plan.first q.image gs MAX_UPDATES plan.fuel)
      guests_same
      ∙ sym q.world

  pub start_once : a ≡ b
  start_once = λ i. record {
    world = world_same i;
    journal = (p.journal ∙ sym q.journal) i;
    state = state_same i;
    aim = (p.aim ∙ sym q.aim) i;
    events = (p.events ∙ sym q.events) i;
  }

-- ---- one simulation

module _ (plan : Plan) (end : World) where
  -- what the world has of a guest is one part
  part_once : (number : ℕ) (a b : GuestPart) (r r' : Raw) → slice_get end.guests number ≡ Some r
      → slice_get end.guests number ≡ Some r' → slice_get plan.guests number ≡ Some a.entry
      → slice_get plan.guests number ≡ Some b.entry → a ≡ part_of number a.entry r → b ≡ part_of number b.entry r'
      → a ≡ b
  part_once number a b r r' here there entry entry' told told' =
      let both : Some r ≡ Some r' = sym here ∙ there in
      let guest : r ≡ r' = cc in
      let name = name_same a.entry b.entry (sym entry ∙ entry') in
      told ∙ ap (λ (e : List ℕ). part_of number e r) name ∙ ap (λ (x : Raw). part_of number b.entry x) guest ∙ sym told'

module _ (plan : Plan) (modules : List Module) (schedule : List ℕ) (is : IsPlan plan)
    (sound : All IsSoundModule modules)
  where
    module _ (a b : SimReport) (p : IsValidSim plan modules schedule a) (q : IsValidSim plan modules schedule b) where
      end_same : p.end ≡ q.end
      end_same =
          let start = start_once plan modules is sound p.start q.start p.starts q.starts in
          lines_once plan modules sound q.start.state (numbered_lines schedule) q.start p.end q.end
          (start_holds plan modules is sound q.start q.starts)
          (subst (λ (s : Stage). LinesMake plan modules (numbered_lines schedule) s p.end) start p.makes) q.makes

      guests_are : a.report.guests ≡ b.report.guests
      guests_are =
          same_lists a.report.guests b.report.guests (p.count ∙ sym q.count)
          (λ k d within.
          let x = get_or a.report.guests k d in
          let y = get_or b.report.guests k d in
          let one = p.guests k x (slice_get-get_or a.report.guests k d within) in
          let other = q.guests k y
          (slice_get-get_or b.report.guests k d (omega (arith, within, p.count, q.count))) in
          part_once plan q.end.world k x y one.r other.r
          (subst (λ (s : Stage). slice_get s.world.guests k ≡ Some one.r) end_same one.there) other.there one.entry
          other.entry one.told other.told)

      report_same : a.report ≡ b.report
      report_same = λ i. record {
        epoch = (p.epoch ∙ ap (λ (s : Stage). s.state.epoch) end_same ∙ sym q.epoch) i;
        policy = (p.policy ∙ ap (λ (s : Stage). s.state.policy) end_same ∙ sym q.policy) i;
        modules = (p.lines ∙ ap (λ (s : Stage). map (module_line_of plan.modules) s.state.loaded) end_same
            ∙ sym q.lines) i;
        journal = (p.journal ∙ ap (λ (s : Stage). s.journal) end_same ∙ sym q.journal) i;
        guests = guests_are i;
      }

      sim_once : a ≡ b
      sim_once = λ i. record {
        phase = (p.phase ∙ ap (λ (s : Stage). phase_of s.world.tables) end_same ∙ sym q.phase) i;
        report = report_same i;
      }

    none_beside : (number : ℕ) (sim : SimReport) → IsFirstBad plan modules schedule number
        → ¬ IsValidSim plan modules schedule sim
    none_beside number sim bad valid =
        let line = bad.bad in
        let start = start_once plan modules is sound bad.start valid.start bad.starts valid.starts in
        stuck_never plan modules sound valid.start.state line.before (number, line.text) line.after valid.start line.mid
        valid.end (start_holds plan modules is sound valid.start valid.starts)
        (subst (λ (s : Stage). LinesMake plan modules line.before s line.mid) start line.leads) line.stuck
        (subst (λ (ls : List (ℕ × List ℕ)). LinesMake plan modules ls valid.start valid.end) line.lines valid.makes)

pub one : SimulationsAreOne
one = λ plan modules schedule a b is sound p q. sim_once plan modules schedule is sound a b p q

pub none : NoneBesideABadLine
none = λ plan modules schedule number sim is sound bad. none_beside plan modules schedule is sound number sim bad
