-- The places within a check, and how one leads to the next.
use Rattle.std.proofs.Common.{◌≡◌, ◌≢◌, ℕ, ◌+◌, ◌*◌, ◌/◌, ◌%◌, ◌^◌, ◌<◌, ◌≤◌, Option, Some, None, bit_xor, Bool, true}
use Rattle.cfi_word.specs.Ids.{low_half}
use Rattle.cfi_word.specs.Word.{id_in, policy_in}
use Rattle.cfi_model.specs.declared.act.Wait.TheVariants as waits
use Rattle.cfi_model.specs.Log.{last_policy}
use Rattle.cfi_model.specs.State.{State}
use Rattle.cfi_model.specs.Raw.{Raw}
use Rattle.cfi_model.specs.Run.{Take, Word, take_one}
use Rattle.cfi_model.specs.History.{History, IsEpoch, IsBaryWord, allows_at}
use Rattle.cfi_model.specs.Shows.{IsBetween, IsRepeat, AreKept, IsTriedIn, End}
use Rattle.cfi_model.specs.Effect.{checked, is_in_code}
use Rattle.cfi_model.proofs.InnerLemmas.{inner}
use Rattle.cfi_model.proofs.CheckLemmas.{high_word}
use Rattle.cfi_model.proofs.IdLemmas.{IsTry}

-- a place is named for what was done last
pub data CheckPlace : Type 0 where
  Aimed : CheckPlace
  Split : CheckPlace
  Far : CheckPlace
  Trying : CheckPlace
  Pointed : CheckPlace
  AskedBary : CheckPlace
  FoundBary : CheckPlace
  Tabled : CheckPlace
  Added : CheckPlace
  AskedTary : CheckPlace
  FoundTary : CheckPlace
  Differed : CheckPlace
  Compared : CheckPlace
  Lowered : CheckPlace
  Refused : CheckPlace
  Allowed : CheckPlace

-- registers and table words, where a place leaves them open
pub record Values : Type 0 where
  pub x28 : ℕ
  pub x29 : ℕ
  pub x30 : ℕ
  pub kept : Option ℕ
  pub last : Option ℕ
  pub bary : ℕ
  pub tary : ℕ

-- the raw state at a place, after so many repeated tries in this check and before it
abbrev pub check_raw : State → (n slot target : ℕ) → Values → CheckPlace → Raw
check_raw p n slot t v Aimed =
    inner p p.units (p.pc + 4 * 1) (p.steps + 9 * n + 1) v.x28 v.x29 v.x30 t None None None
check_raw p n slot t v Split =
    inner p p.units (p.pc + 4 * 2) (p.steps + 9 * n + 2) v.x28 v.x29 (t / 2 ^ 18) t None None None
check_raw p n slot t v Far =
    inner p p.units (p.pc + 4 * 12) (p.steps + 9 * n + 3) v.x28 v.x29 v.x30 t None None None
check_raw p n slot t v Trying =
    inner p p.units (p.pc + 4 * 3) (p.steps + 9 * n + 3) v.x28 v.x29 v.x30 t v.kept v.last None
check_raw p n slot t v Pointed =
    inner p p.units (p.pc + 4 * 4) (p.steps + 9 * n + 4) (high_word slot) v.x29 v.x30 t v.kept v.last None
check_raw p n slot t v AskedBary =
    inner p p.units (p.pc + 4 * 5) (p.steps + 9 * n + 5) (high_word slot) v.x29 v.x30 t v.kept v.last
    (Some (waits.Bary slot 29))
check_raw p n slot t v FoundBary =
    inner p p.units (p.pc + 4 * 5) (p.steps + 9 * n + 5) v.x28 (id_in v.bary) v.x30 t (Some v.bary) v.last None
check_raw p n slot t v Tabled =
    inner p p.units (p.pc + 4 * 6) (p.steps + 9 * n + 6) v.x28 (id_in v.bary) 0x10000000 t (Some v.bary) v.last None
check_raw p n slot t v Added =
    inner p p.units (p.pc + 4 * 7) (p.steps + 9 * n + 7) v.x28 (id_in v.bary) (0x10000000 + t) t (Some v.bary) v.last
    None
check_raw p n slot t v AskedTary =
    inner p p.units (p.pc + 4 * 8) (p.steps + 9 * n + 8) v.x28 (id_in v.bary) (0x10000000 + t) t (Some v.bary) v.last
    (Some (waits.Tary t 30))
check_raw p n slot t v FoundTary =
    inner p p.units (p.pc + 4 * 8) (p.steps + 9 * n + 8) v.x28 (id_in v.bary) (id_in v.tary) t (Some v.bary)
    (Some v.tary) None
check_raw p n slot t v Differed =
    inner p p.units (p.pc + 4 * 9) (p.steps + 9 * n + 9) v.x28 (id_in v.bary) (id_in v.tary) t (Some v.bary)
    (Some v.tary) None
check_raw p n slot t v Compared =
    inner p p.units (p.pc + 4 * 10) (p.steps + 9 * n + 10) v.x28 (id_in v.bary)
    (bit_xor (id_in v.tary) (id_in v.bary)) t (Some v.bary) (Some v.tary) None
check_raw p n slot t v Lowered =
    inner p p.units (p.pc + 4 * 11) (p.steps + 9 * n + 11) v.x28 (id_in v.bary)
    (bit_xor (id_in v.tary) (id_in v.bary) * 2 ^ 16 % 2 ^ 32) t (Some v.bary) (Some v.tary) None
check_raw p n slot t v Refused =
    inner p p.units (p.pc + 4 * 12) (p.steps + 9 * n + 12) v.x28 v.x29 v.x30 t (Some v.bary) (Some v.tary) None
check_raw p n slot t v Allowed =
    inner p p.units (p.pc + 4 * 13) (p.steps + 9 * n + 9) v.x28 v.x29 v.x30 t (Some v.bary) (Some v.tary) None

-- a try has begun, which repeats one only where the target is whole, and for the two words that are kept
pub record IsTrying (h : History) (more slot target : ℕ) (kept last : Option ℕ) : Type 0 where
  pub low : target < 2 ^ 18
  pub whole : more ≢ 0 → target % 4 ≡ 0
  pub words : more ≢ 0 → AreKept h slot target kept last

-- both words were found, and the second one may be logged
pub record IsTried (h : History) (p : State) (slot target bary tary : ℕ) : Type 0 where
  pub low : target < 2 ^ 18
  pub whole : target % 4 ≡ 0
  pub words : IsTry h slot target bary tary
  pub rises : last_policy p.log ≤ policy_in tary

-- what holds at a place, after so many repeated tries
abbrev pub CheckHolds : History → State → (more slot target : ℕ) → Values → CheckPlace → Type 0
CheckHolds h p more slot t v Aimed = more ≡ 0
CheckHolds h p more slot t v Split = more ≡ 0
CheckHolds h p more slot t v Far = (more ≡ 0) × (2 ^ 18 ≤ t)
CheckHolds h p more slot t v Trying = IsTrying h more slot t v.kept v.last
CheckHolds h p more slot t v Pointed = IsTrying h more slot t v.kept v.last
CheckHolds h p more slot t v AskedBary = IsTrying h more slot t v.kept v.last
CheckHolds h p more slot t v FoundBary = IsTrying h more slot t v.kept v.last × IsBaryWord h slot v.bary
CheckHolds h p more slot t v Tabled = IsTrying h more slot t v.kept v.last × IsBaryWord h slot v.bary
CheckHolds h p more slot t v Added = IsTrying h more slot t v.kept v.last × IsBaryWord h slot v.bary
CheckHolds h p more slot t v AskedTary = (t < 2 ^ 18) × (t % 4 ≡ 0) × IsBaryWord h slot v.bary
CheckHolds h p more slot t v FoundTary = IsTried h p slot t v.bary v.tary
CheckHolds h p more slot t v Differed = IsTried h p slot t v.bary v.tary × (id_in v.bary ≢ id_in v.tary)
CheckHolds h p more slot t v Compared = IsTried h p slot t v.bary v.tary × (id_in v.bary ≢ id_in v.tary)
CheckHolds h p more slot t v Lowered = IsTried h p slot t v.bary v.tary × (id_in v.bary ≢ id_in v.tary)
CheckHolds h p more slot t v Refused =
    IsTried h p slot t v.bary v.tary × (id_in v.bary ≢ id_in v.tary)
    × (low_half (id_in v.tary) ≡ low_half (id_in v.bary))
CheckHolds h p more slot t v Allowed = IsTried h p slot t v.bary v.tary × (id_in v.bary ≡ id_in v.tary)

-- tries are repeated where two words' versions differ
abbrev pub HasTwo : History → (slot target more : ℕ) → Type 0
HasTwo h slot target more = more ≢ 0 → IsRepeat h slot target

-- a raw state within a check, which has repeated some tries after those of earlier checks
pub record CheckAt (h : History) (p : State) (retries slot target : ℕ) (r : Raw) : Type 0 where
  pub more : ℕ
  pub two : HasTwo h slot target more
  pub values : Values
  pub place : CheckPlace
  pub is : r ≡ check_raw p (retries + more) slot target values place
  pub holds : CheckHolds h p more slot target values place

-- ---- which words the present try has found

pub data Found : Type 0 where
  Neither : Found
  SlotWord : Found
  BothWords : Found

abbrev pub found_at : CheckPlace → Found
found_at Aimed = Neither
found_at Split = Neither
found_at Far = Neither
found_at Trying = Neither
found_at Pointed = Neither
found_at AskedBary = Neither
found_at FoundBary = SlotWord
found_at Tabled = SlotWord
found_at Added = SlotWord
found_at AskedTary = SlotWord
found_at FoundTary = BothWords
found_at Differed = BothWords
found_at Compared = BothWords
found_at Lowered = BothWords
found_at Refused = BothWords
found_at Allowed = BothWords

-- what an access makes of them: the code's word leaves them, or begins a try anew; a table word is one more
abbrev pub FollowsBy : (old new : Found) → (slot target : ℕ) → (v : Values) → Raw → Take → (w : Values) → Type 0
FollowsBy Neither Neither slot target v r t w = r.waits ≡ None
FollowsBy Neither SlotWord slot target v r t w = (r.waits ≡ Some (waits.Bary slot 29)) × (t ≡ Word w.bary)
FollowsBy Neither BothWords slot target v r t w = ⊥
FollowsBy SlotWord Neither slot target v r t w = ⊥
FollowsBy SlotWord SlotWord slot target v r t w = (r.waits ≡ None) × (w.bary ≡ v.bary)
FollowsBy SlotWord BothWords slot target v r t w =
    (r.waits ≡ Some (waits.Tary target 30)) × (w.bary ≡ v.bary) × (t ≡ Word w.tary)
FollowsBy BothWords Neither slot target v r t w = r.waits ≡ None
FollowsBy BothWords SlotWord slot target v r t w = ⊥
FollowsBy BothWords BothWords slot target v r t w = (r.waits ≡ None) × (w.bary ≡ v.bary) × (w.tary ≡ v.tary)

-- a raw state within a check after one more access
pub record CheckGoesOn (h : History) (p : State) (retries slot target : ℕ) (v : Values) (place : CheckPlace) (r : Raw)
    (t : Take) : Type 0 where
  pub now : CheckAt h p retries slot target (take_one r t)
  pub follows : FollowsBy (found_at place) (found_at now.place) slot target v r t now.values

-- a check has ended, under the policy of an epoch, that of the two kept words
pub record CheckEnded (h : History) (p : State) (retries slot target : ℕ) (link : Bool) (end : End) (r : Raw)
    : Type 0 where
  pub more : ℕ
  pub two : HasTwo h slot target more
  pub epoch : ℕ
  pub known : IsEpoch h epoch
  pub under : is_in_code target ≡ true → IsTriedIn h epoch slot target end
  pub ends : IsBetween (retries + more) (checked (h.policy epoch) (allows_at h epoch slot target) link target p) r
  pub logged : more ≢ 0 → is_in_code target ≡ true
  pub rises : is_in_code target ≡ true → last_policy p.log ≤ h.policy epoch

-- a check has ended from a place; where it has asked a policy, its try had found both words
pub record CheckStops (h : History) (p : State) (retries slot target : ℕ) (link : Bool) (place : CheckPlace) (end : End)
    (r : Raw) : Type 0 where
  pub ended : CheckEnded h p retries slot target link end r
  pub tried : is_in_code target ≡ true → found_at place ≡ BothWords
