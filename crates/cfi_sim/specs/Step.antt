-- What a trace tells of an event of a guest: a line where a unit has ended, a table word was loaded, a try begins anew,
-- the guest has stopped, or a quiescent point has loaded EPOCH or has published. A line has the guest, the number of
-- its unit, from 1, the address at which the unit begins, what it is, and behind # what it has done.
use Rattle.std.specs.Prelude.{ℕ, zero, suc, ◌+◌, ◌-◌, ◌/◌, ◌==◌, ◌&&◌, nat_lt, if◌then◌else◌, List, [], ◌∷◌, ◌++◌, length, slice_index, Option, Some, None, codes}
use Rattle.cfi_model.specs.declared.act.Wait.{Wait}
use Rattle.cfi_model.specs.declared.act.Wait.TheVariants as waits
use Rattle.cfi_model.specs.declared.quiet.Point.{Point}
use Rattle.cfi_model.specs.declared.quiet.Point.TheVariants.{Outside, Asking, Leaving, Found}
use Rattle.cfi_model.specs.InForce.{tary_index}
use Rattle.cfi_model.specs.Log.{last_of, last_picks}
use Rattle.cfi_model.specs.Raw.{Raw, reg}
use Rattle.cfi_model.specs.State.{after}
use Rattle.cfi_model.specs.Words.{Tables, epoch_in_force, policy_in_force, word_at}
use Rattle.cfi_sim.specs.declared.seen.Seen.{Seen}
use Rattle.cfi_sim.specs.declared.span.Span.{Span}
use Rattle.cfi_sim.specs.Span.{span_of, plain_of}
use Rattle.cfi_text.specs.Decimal.{dec_text}
use Rattle.cfi_text.specs.Hex.{hex8_text}
use Rattle.cfi_unit.specs.declared.log.Log.{Log}
use Rattle.cfi_unit.specs.declared.log.Log.TheVariants as logs
use Rattle.cfi_unit.specs.declared.log.Stop.{Stop}
use Rattle.cfi_unit.specs.declared.log.Stop.TheVariants as stops
use Rattle.cfi_unit.specs.declared.unit.TheConstants.{FREE_REGISTERS}
use Rattle.cfi_word.specs.Ids.{class_in}
use Rattle.cfi_word.specs.Table.{Bary, Code, Tary}
use Rattle.cfi_word.specs.Word.{epoch_in, id_in, policy_in}
use Rattle.rv_insn.specs.declared.insn.Insn.{Insn}
use Rattle.rv_insn.specs.InsnOf.{insn_of}
use Rattle.rv_text.specs.Text.{text_of}

-- ---- what is kept of a guest from before an event

-- what so many registers hold, from x0 on
unfoldable pub first_registers : Raw → (count : ℕ) → List ℕ
first_registers r zero = []
first_registers r (suc count) = first_registers r count ++ reg r count ∷ []

-- what is told of a guest before an event
abbrev pub seen_of : Point → Raw → Seen
seen_of point r = record {
  point = point;
  pc = r.base.pc;
  units = r.base.units;
  waits = r.waits;
  logged = length r.base.log;
  picks = last_picks r.base.log;
  registers = first_registers r FREE_REGISTERS;
}

-- ---- what a unit has done

-- why the guest has stopped
abbrev pub stop_text : Option Stop → List ℕ
stop_text None = []
stop_text (Some (stops.Exit code)) = codes " exit " ++ dec_text code
stop_text (Some (stops.Halt target)) = codes " halt " ++ hex8_text target
stop_text (Some (stops.Align address)) = codes " align " ++ hex8_text address
stop_text (Some stops.Fuel) = codes " fuel"

-- an entry of the log: the policy of a pick, or what an open has found
abbrev pub log_text : Option Log → List ℕ
log_text None = []
log_text (Some (logs.Pick policy count)) = codes " pick " ++ dec_text policy
log_text (Some (logs.Open number address policy)) =
    codes " open " ++ dec_text number ++ codes " " ++ hex8_text address ++ codes " " ++ dec_text policy
log_text (Some (logs.Cause number cause)) = codes " open " ++ dec_text number ++ codes " cause " ++ dec_text cause

-- what was logged: an entry more, or a pick more in the last one
abbrev pub entry_text : Seen → List Log → List ℕ
entry_text old log =
    if (length log == old.logged) && (last_picks log == old.picks) then [] else log_text (last_of log)

-- where the guest goes on, where that is not the next address
abbrev pub arrow_text : Option Stop → (next pc : ℕ) → List ℕ
arrow_text None next pc = if pc == next then [] else codes " -> " ++ hex8_text pc
arrow_text (Some stop) next pc = []

-- a register that has changed, and all that have, of so many from x0 on
abbrev pub change_text : (k before value : ℕ) → List ℕ
change_text k before value =
    if before == value then [] else codes " x" ++ dec_text k ++ codes "=" ++ hex8_text value

-- the first registers that have changed
unfoldable pub changes_text : Seen → Raw → (count : ℕ) → List ℕ
changes_text old new zero = []
changes_text old new (suc k) = changes_text old new k ++ change_text k (slice_index old.registers k) (reg new k)

-- what a unit has done: its entry of the log, where it leads, and what it has changed
unfoldable pub did_text : Seen → Raw → (next : ℕ) → List ℕ
did_text old new next =
    entry_text old new.base.log ++ arrow_text new.base.stop next new.base.pc ++ changes_text old new FREE_REGISTERS

-- ---- lines

-- what a table word has
unfoldable pub word_text : (word : ℕ) → List ℕ
word_text word =
    codes " epoch " ++ dec_text (epoch_in word) ++ codes " policy " ++ dec_text (policy_in word)
    ++ codes " class " ++ dec_text (class_in (id_in word))

-- the word that was loaded for a slot, and for a target
abbrev pub bary_text : (slot word : ℕ) → List ℕ
bary_text slot word = codes "bary " ++ dec_text slot ++ word_text word

-- the load of a target's word
unfoldable pub target_text : (at : ℕ) → List ℕ
target_text at = codes "tary " ++ hex8_text at

-- with the word that it finds
abbrev pub tary_text : (at word : ℕ) → List ℕ
tary_text at word = target_text at ++ word_text word

-- what EPOCH has
unfoldable pub epoch_text : Tables → List ℕ
epoch_text t = codes "epoch " ++ dec_text (epoch_in_force t) ++ codes " policy " ++ dec_text (policy_in_force t)

-- the epoch that is published
abbrev pub quiet_text : (epoch : ℕ) → List ℕ
quiet_text epoch = codes "quiet " ++ dec_text epoch

-- something stands behind #, or nothing does
abbrev pub behind : List ℕ → List ℕ
behind [] = []
behind (byte ∷ bytes) = codes " #" ++ byte ∷ bytes

-- the guest, the number of its unit, and the unit's address
abbrev pub head_text : (guest number address : ℕ) → List ℕ
head_text guest number address =
    dec_text guest ++ codes " " ++ dec_text number ++ codes " " ++ hex8_text address ++ codes " "

-- a line of a guest: where it is, what happens, and what comes of it
unfoldable pub line_of : (guest : ℕ) → Seen → (address : ℕ) → (what did : List ℕ) → Option Stop → List ℕ
line_of guest old address what did stop =
    head_text guest (old.units + 1) address ++ what ++ behind (did ++ stop_text stop) ++ codes "\n"

-- the instruction at an address of the code
abbrev pub insn_at : Tables → (address : ℕ) → Option Insn
insn_at t address = insn_of (word_at t (Code (address / 4)))

-- the text of an instruction
abbrev pub insn_text : Option Insn → List ℕ
insn_text None = []
insn_text (Some insn) = text_of insn

-- the unit that an instruction at `pc` has ended, as the instruction for which it stands
unfoldable pub unit_text : Tables → (pc : ℕ) → Span → List ℕ
unit_text t pc span = insn_text (plain_of (insn_at t (pc - span.before)) (insn_at t (after span.after pc)))

-- ---- events

-- the instruction at the guest's place has ended a unit
unfoldable pub ended_text : Tables → (guest : ℕ) → Seen → Raw → Span → List ℕ
ended_text t guest old new span =
    line_of guest old (old.pc - span.before) (unit_text t old.pc span) (did_text old new (after 4 old.pc)) new.base.stop

-- it has not, and the guest has not stopped, or has for want of fuel
unfoldable pub inside_text : Tables → (guest : ℕ) → Seen → Option Stop → List ℕ
inside_text t guest old None = []
inside_text t guest old (Some stop) =
    line_of guest old old.pc (insn_text (insn_at t old.pc)) [] (Some stop)

-- An instruction was fetched. Inside a unit only the branch that begins the next try leads back; it is the twelfth
-- instruction of the check.
unfoldable pub fetched_text : Tables → (guest : ℕ) → Seen → Raw → List ℕ
fetched_text t guest old new =
    if new.base.units == old.units
    then (if nat_lt new.base.pc old.pc
    then line_of guest old (old.pc - 44) (codes "again") [] new.base.stop
    else inside_text t guest old new.base.stop)
    else ended_text t guest old new (span_of (insn_at t old.pc))

-- a guest has parked, and the service's work is done, or it is not
unfoldable pub service_text : (guest : ℕ) → Seen → Raw → List ℕ
service_text guest old new =
    if new.base.units == old.units
    then []
    else line_of guest old (old.pc - 4) (codes "ecall") (did_text old new old.pc) new.base.stop

-- a word has come: the two loads of a check are its fifth and its eighth instruction, and the guest stands behind them
unfoldable pub bary_line : Tables → (guest : ℕ) → Seen → (slot : ℕ) → Option Stop → List ℕ
bary_line t guest old slot stop =
    line_of guest old (old.pc - 20) (bary_text slot (word_at t (Bary slot))) [] stop

-- the line of a load of a target's word
unfoldable pub tary_line : Tables → (guest : ℕ) → Seen → (at : ℕ) → Option Stop → List ℕ
tary_line t guest old at stop =
    line_of guest old (old.pc - 32) (tary_text at (word_at t (Tary (tary_index t.code_words at)))) [] stop

-- the quiescent point that ends a service: its lines have the number and the address of the service
unfoldable pub left_line : (guest : ℕ) → Seen → (what : List ℕ) → Option Stop → List ℕ
left_line guest old what stop =
    head_text guest old.units (old.pc - 4) ++ what ++ behind (stop_text stop) ++ codes "\n"

-- outside services, by what the guest waited for
abbrev pub step_by : Option Wait → Tables → (guest : ℕ) → Seen → Raw → List ℕ
step_by None t guest old new = fetched_text t guest old new
step_by (Some (waits.Bary slot rd)) t guest old new = bary_line t guest old slot new.base.stop
step_by (Some (waits.Tary at rd)) t guest old new = tary_line t guest old at new.base.stop
step_by (Some (waits.Service number)) t guest old new = service_text guest old new

-- by how far the guest was in a service
abbrev pub step_at : Point → Tables → (guest : ℕ) → Seen → Raw → List ℕ
step_at Outside t guest old new = step_by old.waits t guest old new
step_at Asking t guest old new = []
step_at Leaving t guest old new = left_line guest old (epoch_text t) new.base.stop
step_at (Found epoch) t guest old new = left_line guest old (quiet_text epoch) new.base.stop

-- an event of a guest, over these tables
abbrev pub step_text : Tables → (guest : ℕ) → Seen → Raw → List ℕ
step_text t guest old new = step_at old.point t guest old new
