-- A part whose numbers have 32 bits, and whose entry's name is one, can be read.
use Rattle.std.proofs.Common.{◌≡◌, ◌≢◌, ℕ, true, Option, Some, None, List, [], ◌∷◌, map, flat_map, refl, sym, ap, subst, inl, inr}
use Rattle.std.specs.List.{AllByRecursion}
use Rattle.cfi_model.specs.History.{History}
use Rattle.cfi_model.specs.Raw.{Raw}
use Rattle.cfi_model.specs.Run.{run_of}
use Rattle.cfi_report.specs.declared.line.Line.TheVariants as line
use Rattle.cfi_report.specs.declared.report.GuestPart.{GuestPart}
use Rattle.cfi_report.specs.Line.{stop_fields}
use Rattle.cfi_report.specs.Report.{IsField, IsLine, MayStand, PicksDiffer, ending_lines, guest_lines}
use Rattle.cfi_report.proofs.ReachedLemmas.{AllByRecursion-append}
use Rattle.cfi_text.specs.Names.{is_name}
use Rattle.cfi_unit.specs.declared.log.Log.{Log}
use Rattle.cfi_unit.specs.declared.log.Log.TheVariants.{Pick, Open, Cause}
use Rattle.cfi_unit.specs.declared.log.Stop.{Stop}
use Rattle.cfi_valid.specs.Course.{Course}
use Rattle.cfi_guest_part.specs.Part.{HasFields, IsEndOf, IsEntry}
use Rattle.cfi_model.specs.Came.{takes_in}
use Rattle.cfi_model.specs.Words.{Tables}
use Rattle.cfi_guest_part.specs.Ran.{IsRunOf}
use Rattle.cfi_guest_part.proofs.ApartLemmas.{Counts, IsKept, run_kept}

-- ---- the log of a guest that has run

end_kept : (last r : Raw) → IsEndOf last r → IsKept last.base.log → IsKept r.base.log
end_kept last r (inl same) kept = subst (λ (x : Raw). IsKept x.base.log) (sym same) kept
end_kept last r (inr spent) kept = subst IsKept (sym (ap (λ (x : Raw). x.base.log) spent.is)) kept

pub told_kept : (c : Course) (t : Tables) (h : History) (code : List ℕ) (number : ℕ) (part : GuestPart)
    → IsRunOf c t h code number part
    → IsKept part.log
told_kept c t h code number part of =
    let run = of.run in
    let first : IsKept run.start.base.log =
    subst (λ (r : Raw). IsKept r.base.log) (sym run.opened.is) (record { apart = tt; counts = tt }) in
    subst IsKept (sym (ap (λ (p : GuestPart). p.log) of.told))
    (end_kept (run_of run.start (takes_in run.came)) of.guest run.ends (run_kept (takes_in run.came) run.start first))

-- ---- lines

may_log : (entry : Log) → Counts entry → MayStand (line.Log entry)
may_log (Pick policy count) one = one
may_log (Open number address policy) one = tt
may_log (Cause number cause) one = tt

log_lines : (log : List Log) → AllByRecursion IsEntry log → AllByRecursion Counts log
    → AllByRecursion IsLine (map line.Log log)
log_lines [] fields counts = tt
log_lines (entry ∷ log) fields counts =
    ((fields.0, may_log entry counts.0), log_lines log fields.1 counts.1)

stop_line : (stop : Option Stop) → stop ≢ None → AllByRecursion IsField (stop_fields stop) → IsLine (line.Stop stop)
stop_line None stopped fields = absurd (stopped refl)
stop_line (Some stop) stopped fields = ((tt, fields), tt)

-- what of a part that has these numbers lets it be read
pub record CanBeRead (part : GuestPart) : Type 0 where
  pub kept : IsKept part.log
  pub stopped : part.stop ≢ None
  pub named : is_name part.entry ≡ true

pub part_lines : (part : GuestPart) → HasFields part → CanBeRead part → AllByRecursion IsLine (guest_lines part)
part_lines part fields can =
    let log = log_lines part.log fields.log can.kept.counts in
    let ending : AllByRecursion IsLine (ending_lines part) = (
      ((tt, (fields.out, tt)), tt),
      (stop_line part.stop can.stopped fields.stop, (((tt, (fields.units, tt)), tt), (((tt, (fields.steps, tt)), tt), tt))),
    ) in (
      ((tt, (fields.number, (can.named, tt))), tt),
      AllByRecursion-append IsLine (map line.Log part.log) (ending_lines part) log ending,
    )

pub parts_lines : (parts : List GuestPart) → AllByRecursion HasFields parts → AllByRecursion CanBeRead parts
    → AllByRecursion IsLine (flat_map guest_lines parts)
parts_lines [] fields can = tt
parts_lines (part ∷ parts) fields can =
    AllByRecursion-append IsLine (guest_lines part) (flat_map guest_lines parts) (part_lines part fields.0 can.0)
    (parts_lines parts fields.1 can.1)

pub parts_apart : (parts : List GuestPart) → AllByRecursion CanBeRead parts
    → AllByRecursion (λ (part : GuestPart). PicksDiffer part.log) parts
parts_apart [] can = tt
parts_apart (part ∷ parts) can = (can.0.kept.apart, parts_apart parts can.1)
