-- A guest's loads of shared words, from first to last, as the raw machine takes them. A load of EPOCH, with which a
-- quiescent point begins, is none of its own; the fetch of ECALL brings the end of its service too, and an open takes
-- the next answer, where more opens may be logged.
use Rattle.std.specs.Prelude.{◌≡◌, ℕ, ◌/◌, ◌≤◌, ◌<◌, ◌==◌, nat_le, nat_lt, if◌then◌else◌, List, [], ◌∷◌, ◌++◌, length, slice_index, Option, Some, None, ⊤, ◌⊎◌}
use Rattle.cfi_word.specs.Rank.{stores_of}
use Rattle.cfi_word.specs.Table.{IsTary, code_word, tary_word, bary_word}
use Rattle.cfi_word.specs.Word.{policy_in}
use Rattle.cfi_word.specs.declared.lists.Image.{Image}
use Rattle.cfi_word.specs.declared.layout.TheConstants.{EPOCH}
use Rattle.cfi_word.specs.declared.limits.TheConstants.{MAX_OPENS}
use Rattle.cfi_word.specs.declared.services.TheConstants.{OPEN}
use Rattle.cfi_model.specs.declared.act.Wait.{Wait}
use Rattle.cfi_model.specs.declared.act.Wait.TheVariants as waits
use Rattle.cfi_model.specs.declared.history.Access.{Access}
use Rattle.cfi_model.specs.Fits.{FitsOpen, Along}
use Rattle.cfi_model.specs.History.{History, IsHistory, IsBaryWord, IsTaryWord, IsFair}
use Rattle.cfi_model.specs.InForce.{tary_index}
use Rattle.cfi_model.specs.Log.{opens, last_policy}
use Rattle.cfi_model.specs.Raw.{Raw}
use Rattle.cfi_model.specs.Run.{Take, Word, Served, take_one, run_of}
use Rattle.cfi_model.specs.Service.{Reply, too_many}
use Rattle.cfi_model.specs.Tries.{IsTry}

-- the Bary word that was loaded last since a load of EPOCH; BARY is the last area
abbrev pub kept_by : (code_words : ℕ) → (kept : Option ℕ) → Access → Option ℕ
kept_by code_words kept access =
    if access.word == EPOCH then None else
    (if nat_le (bary_word code_words 0) access.word then Some access.found else kept)

-- what is kept after all of these loads
abbrev pub kept_after : (code_words : ℕ) → (kept : Option ℕ) → List Access → Option ℕ
kept_after code_words kept [] = kept
kept_after code_words kept (access ∷ later) = kept_after code_words (kept_by code_words kept access) later

-- fair: where a Tary word has the version of the Bary word that is kept, it has its epoch
abbrev pub AreFair : History → (code_words : ℕ) → (kept : Option ℕ) → List Access → Type 0
AreFair h code_words kept [] = ⊤
AreFair h code_words kept (access ∷ later) =
    (IsTary code_words access.word → IsFair h kept access.found)
    × AreFair h code_words (kept_by code_words kept access) later

-- how a service ends with its fetch: an open with the next answer, or with none where there is none yet
abbrev pub next_answer : List Reply → List Take
next_answer [] = []
next_answer (reply ∷ later) = Served reply ∷ []

-- the end of the service in which a guest waits: an open brings the next reply, if its guest may log one more
abbrev pub ended_by : Option Wait → Raw → List Reply → List Take
ended_by (Some (waits.Service number)) r replies =
    if number == OPEN
    then (if nat_lt (opens r.base.log) MAX_OPENS then next_answer replies else Served too_many ∷ [])
    else Served too_many ∷ []
ended_by wait r replies = []

-- the answers that are left then
abbrev pub later_answers : List Reply → List Reply
later_answers [] = []
later_answers (reply ∷ later) = later

-- the replies that are left then
abbrev pub left_by : Option Wait → Raw → List Reply → List Reply
left_by (Some (waits.Service number)) r replies =
    if number == OPEN
    then (if nat_lt (opens r.base.log) MAX_OPENS then later_answers replies else replies)
    else replies
left_by wait r replies = replies

-- what an access brings, and the answers that are left after it
abbrev pub taken_by : Raw → List Reply → Access → List Take
taken_by r replies access =
    let now = take_one r (Word access.found) in
    if access.word == EPOCH then [] else Word access.found ∷ ended_by now.waits now replies

-- those that are left after a load: a quiescent point takes none
abbrev pub left_after : Raw → List Reply → Access → List Reply
left_after r replies access =
    let now = take_one r (Word access.found) in
    if access.word == EPOCH then replies else left_by now.waits now replies

-- what all of them bring
abbrev pub takes_of : Raw → List Reply → List Access → List Take
takes_of r replies [] = []
takes_of r replies (access ∷ later) =
    let taken = taken_by r replies access in
    taken ++ takes_of (run_of r taken) (left_after r replies access) later

-- the answers that are left after all of them
abbrev pub left_of : Raw → List Reply → List Access → List Reply
left_of r replies [] = replies
left_of r replies (access ∷ later) =
    left_of (run_of r (taken_by r replies access)) (left_after r replies access) later

-- the access is the one that the machine asks for, and finds a word of the history or of the code; a quiescent point
-- comes where no Bary word is kept
abbrev pub FindsWord : History → (code : List ℕ) → Option Wait → Raw → Access → Type 0
FindsWord h code None r access =
    (r.base.stop ≡ None) × (r.base.pc / 4 < length code) × (access.word ≡ code_word (r.base.pc / 4))
    × (access.found ≡ slice_index code (r.base.pc / 4))
FindsWord h code (Some (waits.Tary at rd)) r access =
    (access.word ≡ tary_word (length code) (tary_index (length code) at)) × IsTaryWord h at access.found
    × (last_policy r.base.log ≤ policy_in access.found)
FindsWord h code (Some (waits.Bary slot rd)) r access =
    (access.word ≡ bary_word (length code) slot) × IsBaryWord h slot access.found
FindsWord h code (Some (waits.Service number)) r access = ⊥

-- what a load finds fits the raw machine; at a quiescent point outside of checks it is EPOCH's
abbrev pub Finds : History → (code : List ℕ) → Raw → Access → Type 0
Finds h code r access =
    ((access.word ≡ EPOCH) × (r.bary ≡ None)) ⊎ FindsWord h code r.waits r access

-- the answer to an open may come
abbrev pub IsAnsweredBy : List Reply → Raw → Type 0
IsAnsweredBy [] r = ⊤
IsAnsweredBy (reply ∷ later) r =
    r.waits ≡ Some (waits.Service OPEN) → opens r.base.log < MAX_OPENS → FitsOpen reply r.base

-- each access is found by the state that it meets
abbrev pub AllFind : History → (code : List ℕ) → Raw → List Reply → List Access → Type 0
AllFind h code r replies [] = ⊤
AllFind h code r replies (access ∷ later) =
    Finds h code r access × IsAnsweredBy replies (take_one r (Word access.found))
    × AllFind h code (run_of r (taken_by r replies access)) (left_after r replies access) later

-- a Bary word that the machine keeps is the one that was loaded last since a load of EPOCH
abbrev pub KeepsLast : Raw → (kept : Option ℕ) → Type 0
KeepsLast r kept = (word : ℕ) → r.bary ≡ Some word → kept ≡ Some word

-- the fetch of an image's code word, at the opening
abbrev pub fetch_of : Image → (index : ℕ) → Access
fetch_of image index = record {
  word = code_word index;
  found = slice_index image.code index;
  moment = record { entries = 1; stored = stores_of (length image.code) };
}

-- what is found fits, where the list is fair
abbrev pub AccessesFit : Type 0
AccessesFit =
    (h : History) (code : List ℕ) → IsHistory h code →
    (accesses : List Access) (r : Raw) (replies : List Reply) → AllFind h code r replies accesses →
    (kept : Option ℕ) → KeepsLast r kept → AreFair h (length code) kept accesses →
    Along h code r (takes_of r replies accesses)

-- two lists, one after the other, bring what each brings
abbrev pub AccessesJoin : Type 0
AccessesJoin =
    (accesses later : List Access) (r : Raw) (replies : List Reply) →
    takes_of r replies (accesses ++ later)
    ≡ takes_of r replies accesses
    ++ takes_of (run_of r (takes_of r replies accesses)) (left_of r replies accesses) later

-- in a fair list each try is fair
abbrev pub TriesAreFair : Type 0
TriesAreFair =
    (h : History) (code_words : ℕ) (accesses : List Access) → AreFair h code_words None accesses →
    (from to : ℕ) (try : IsTry code_words accesses from to) →
    IsFair h (Some try.bary.access.found) try.tary.access.found
