-- What the raw machine may be given: the code's words, table words of a history, and answers.
use Rattle.std.specs.Prelude.{◌≡◌, ◌≢◌, ℕ, ◌/◌, ◌≤◌, ◌<◌, List, [], ◌∷◌, slice_index, Option, Some, None, ⊤}
use Rattle.cfi_word.specs.Word.{policy_in}
use Rattle.cfi_model.specs.declared.act.Wait.{Wait}
use Rattle.cfi_model.specs.declared.act.Wait.TheVariants as waits
use Rattle.cfi_word.specs.declared.services.TheConstants.{OPEN, TOO_MANY}
use Rattle.cfi_word.specs.declared.limits.TheConstants.{MAX_OPENS}
use Rattle.cfi_model.specs.Log.{opens, last_policy}
use Rattle.cfi_model.specs.State.{State}
use Rattle.cfi_model.specs.Service.{Reply, IsAnswer}
use Rattle.cfi_model.specs.Raw.{Raw}
use Rattle.cfi_model.specs.Run.{Take, Word, Served, take_one}
use Rattle.cfi_model.specs.History.{History, IsBaryWord, IsTaryWord, IsFair}

-- a Tary word may come: it is fair to the kept Bary word, and no policy that is logged is above its own
pub record FitsTary (h : History) (r : Raw) (at word : ℕ) : Type 0 where
  pub found : IsTaryWord h at word
  pub fair : IsFair h r.bary word
  pub rises : last_policy r.base.log ≤ policy_in word

-- an answer may come: too many opens is the answer exactly where no more are logged
pub record FitsOpen (reply : Reply) (s : State) : Type 0 where
  pub answer : IsAnswer reply s
  pub exact : opens s.log < MAX_OPENS → reply.cause ≢ TOO_MANY

-- a word may come: a guest that has not stopped fetches the code's word
abbrev pub FitsWord : History → (code : List ℕ) → Option Wait → Raw → (word : ℕ) → Type 0
FitsWord h code None r word = (r.base.stop ≡ None) × (word ≡ slice_index code (r.base.pc / 4))
FitsWord h code (Some (waits.Tary at rd)) r word = FitsTary h r at word
FitsWord h code (Some (waits.Bary slot rd)) r word = IsBaryWord h slot word
FitsWord h code (Some (waits.Service number)) r word = ⊥

-- a service's end may come
abbrev pub FitsReply : Option Wait → Raw → Reply → Type 0
FitsReply None r reply = ⊥
FitsReply (Some (waits.Tary at rd)) r reply = ⊥
FitsReply (Some (waits.Bary slot rd)) r reply = ⊥
FitsReply (Some (waits.Service number)) r reply = number ≡ OPEN → FitsOpen reply r.base

-- what is taken fits what the guest waits for: a word, or a reply
abbrev pub Fits : History → (code : List ℕ) → Raw → Take → Type 0
Fits h code r (Word word) = FitsWord h code r.waits r word
Fits h code r (Served reply) = FitsReply r.waits r reply

-- each of them fits the state that it meets
abbrev pub Along : History → (code : List ℕ) → Raw → List Take → Type 0
Along h code r [] = ⊤
Along h code r (t ∷ takes) = Fits h code r t × Along h code (take_one r t) takes
