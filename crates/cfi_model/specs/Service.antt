-- The services of ECALL, by the number in a7: what each does with a0.
use Rattle.std.specs.Prelude.{◌≡◌, ◌≢◌, ◌<◌, ◌≤◌, ℕ, ◌%◌, ◌^◌, ◌==◌, nat_lt, Bool, if◌then◌else◌, List, [], ◌∷◌, ◌++◌, length, slice_set, Option, Some}
use Rattle.cfi_unit.specs.declared.fill.Fill.{Fill}
use Rattle.cfi_unit.specs.declared.log.Log.{Log}
use Rattle.cfi_unit.specs.declared.log.Log.TheVariants as logs
use Rattle.cfi_unit.specs.declared.log.Stop.{Stop}
use Rattle.cfi_unit.specs.declared.log.Stop.TheVariants.{Exit}
use Rattle.cfi_word.specs.declared.limits.TheConstants.{MAX_POLICY, MAX_OPENS, MAX_OUTPUT}
use Rattle.cfi_word.specs.declared.services.TheConstants as services
use Rattle.std.specs.List.{All}
use Rattle.cfi_model.specs.Data.{LiesInData}
use Rattle.cfi_model.specs.Pages.{Memory, memory_filled}
use Rattle.cfi_model.specs.Log.{opens, last_policy}
use Rattle.cfi_model.specs.State.{State, register}

-- the services
pub data Service : Type 0 where
  Ends : Service
  Puts : Service
  Quiets : Service
  Opens : Service
  Unknown : Service

-- the service of a number
abbrev pub service_of : ℕ → Service
service_of number =
    if number == services.EXIT then Ends else
    (if number == services.PUT then Puts else
    (if number == services.QUIET then Quiets else
    (if number == services.OPEN then Opens else Unknown)))

-- what an open is answered: cause 0 where the module is open
pub record Reply : Type 0 where
  pub address : ℕ
  pub cause : ℕ
  pub policy : ℕ
  pub fills : List Fill

-- a reply, of its parts
abbrev pub reply_of : (address cause policy : ℕ) → List Fill → Reply
reply_of address cause policy fills = record { address = address; cause = cause; policy = policy; fills = fills }

-- the module is open
abbrev pub succeeds : Reply → Bool
succeeds reply = reply.cause == 0

-- the answer where no more opens are logged
abbrev pub too_many : Reply
too_many = reply_of 0 services.TOO_MANY 0 []

-- the number of the service that is asked for, and its argument
abbrev pub asked : State → ℕ
asked s = register s services.SERVICE

-- what a guest hands to a service
abbrev pub argument : State → ℕ
argument s = register s services.ARGUMENT

-- the registers with an answer in a0
abbrev pub answered_by : State → ℕ → List ℕ
answered_by s value = slice_set s.regs services.ARGUMENT value

-- a byte can be put
abbrev pub has_room : State → Bool
has_room s = nat_lt (length s.output) MAX_OUTPUT

-- the address or 0 in a0, and the cause in a1
abbrev pub opened_regs : Reply → State → List ℕ
opened_regs reply s =
    slice_set (answered_by s (if succeeds reply then reply.address else 0)) services.CAUSE reply.cause

-- the entry of an open; one that found too many is not logged
abbrev pub opened_log : Reply → State → List Log
opened_log reply s =
    if succeeds reply then s.log ++ logs.Open (argument s) reply.address reply.policy ∷ [] else
    (if reply.cause == services.TOO_MANY then s.log else s.log ++ logs.Cause (argument s) reply.cause ∷ [])

-- what each service makes of the registers
abbrev pub served_regs : Service → Reply → State → List ℕ
served_regs Ends reply s = s.regs
served_regs Puts reply s = answered_by s (if has_room s then 1 else 0)
served_regs Quiets reply s = s.regs
served_regs Opens reply s = opened_regs reply s
served_regs Unknown reply s = answered_by s services.REFUSED

-- of private data
abbrev pub served_memory : Service → Reply → State → Memory
served_memory Opens reply s = if succeeds reply then memory_filled s.memory reply.fills else s.memory
served_memory _ reply s = s.memory

-- of the output
abbrev pub served_output : Service → State → List ℕ
served_output Puts s = if has_room s then s.output ++ (argument s % 2 ^ 8) ∷ [] else s.output
served_output _ s = s.output

-- of the log
abbrev pub served_log : Service → Reply → State → List Log
served_log Opens reply s = opened_log reply s
served_log _ reply s = s.log

-- and of the stop
abbrev pub served_stop : Service → State → Option Stop
served_stop Ends s = Some (Exit (argument s))
served_stop _ s = s.stop

-- what a service does, with the answer that an open gets
abbrev pub served : Service → Reply → State → State
served service reply s = record s {
  regs = served_regs service reply s;
  memory = served_memory service reply s;
  output = served_output service s;
  log = served_log service reply s;
  stop = served_stop service s;
}

-- an answer can be logged: an open that found too many needs no entry, and a success has a policy that does not fall
pub record IsAnswer (reply : Reply) (s : State) : Type 0 where
  pub inside : All LiesInData reply.fills
  pub few : reply.cause ≢ services.TOO_MANY → opens s.log < MAX_OPENS
  pub rises : reply.cause ≡ 0 → last_policy s.log ≤ reply.policy
  pub most : reply.cause ≡ 0 → reply.policy ≤ MAX_POLICY
