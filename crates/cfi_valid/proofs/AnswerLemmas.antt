-- What services leave of a state, by their answers.
use Rattle.std.proofs.Common.{◌≡◌, ◌≢◌, ℕ, ◌==◌, Bool, true, false, cond, [], ◌∷◌, ◌++◌, refl, sym, ap, ◌∙◌}
use Rattle.std.specs.Prelude.{if◌then◌else◌, slice_set}
use Rattle.std.proofs.lemmas.Bool.{eqb-true}
use Rattle.cfi_unit.specs.declared.log.Log.TheVariants.{Open, Cause}
use Rattle.cfi_model.specs.Pages.{memory_filled}
use Rattle.cfi_model.specs.Service.{Reply, Service, Ends, Puts, Quiets, Opens, Unknown, service_of, served, served_log, reply_of, argument, answered_by}
use Rattle.cfi_model.specs.State.{State}
use Rattle.cfi_word.specs.declared.services.TheConstants as services

-- by whether it succeeds
abbrev pub opens_as : (works : Bool) → Reply → State → State
opens_as works reply s = record s {
  regs = slice_set (answered_by s (if works then reply.address else 0)) services.CAUSE reply.cause;
  memory = if works then memory_filled s.memory reply.fills else s.memory;
  log = if works then s.log ++ Open (argument s) reply.address reply.policy ∷ [] else
      (if reply.cause == services.TOO_MANY then s.log else s.log ++ Cause (argument s) reply.cause ∷ []);
}

-- one that does not looks at its cause alone
pub refused_same : (reply : Reply) (s : State) → reply.cause == 0 ≡ false
    → served Opens reply s ≡ served Opens (reply_of 0 reply.cause 0 []) s
refused_same reply s fails =
    ap (λ (works : Bool). opens_as works reply s) fails
    ∙ sym (ap (λ (works : Bool). opens_as works (reply_of 0 reply.cause 0 []) s) fails)

-- the other services look at no answer
pub other_same : (service : Service) (one other : Reply) (s : State) → service ≢ Opens
    → served service one s ≡ served service other s
other_same Ends one other s none = refl
other_same Puts one other s none = refl
other_same Quiets one other s none = refl
other_same Opens one other s none = absurd (none refl)
other_same Unknown one other s none = refl

pub other_log : (service : Service) (reply : Reply) (s : State) → service ≢ Opens → served_log service reply s ≡ s.log
other_log Ends reply s none = refl
other_log Puts reply s none = refl
other_log Quiets reply s none = refl
other_log Opens reply s none = absurd (none refl)
other_log Unknown reply s none = refl

-- the service of opens has one number
opens_by : (a b c d : Bool) → cond a Ends (cond b Puts (cond c Quiets (cond d Opens Unknown))) ≡ Opens → d ≡ true
opens_by true b c d is = absurd (cc)
opens_by false true c d is = absurd (cc)
opens_by false false true d is = absurd (cc)
opens_by false false false true is = refl
opens_by false false false false is = absurd (cc)

pub opens_is : (number : ℕ) → service_of number ≡ Opens → number ≡ services.OPEN
opens_is number is =
    eqb-true number services.OPEN
    (opens_by (number == services.EXIT) (number == services.PUT) (number == services.QUIET)
    (number == services.OPEN) is)

pub opens_of : (number : ℕ) → number ≡ services.OPEN → service_of number ≡ Opens
opens_of number is = ap service_of is
