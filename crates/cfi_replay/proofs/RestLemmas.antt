-- What a log has left: its entries that stand for something, its policies, and its picks one by one.
use Rattle.std.proofs.Common.{◌≡◌, ℕ, zero, suc, ◌+◌, ◌<◌, ◌≤◌, Bool, true, false, cond, List, [], ◌∷◌, ◌++◌, length, drop, replicate, Some, refl, sym, ap, ◌∙◌, arith}
use Rattle.std.specs.List.{fold, slice_get}
use Rattle.std.proofs.lemmas.Bool.{false≢true, eqb-true}
use Rattle.std.proofs.lemmas.List.{drop-drop, drop_at, drop_more}
use Rattle.std.proofs.lemmas.Option.{get_or_from_slice_get, slice_get_within}
use Rattle.cfi_model.specs.Log.{policy_after}
use Rattle.cfi_unit.specs.declared.log.Log.{Log}
use Rattle.cfi_unit.specs.declared.log.Log.TheVariants.{Pick, Open, Cause}
use Rattle.cfi_valid.specs.Log.{NeverFall}
use Rattle.cfi_valid.specs.Replay.{singles_of, singles}
use Rattle.cfi_replay.specs.inner.Cursor.{is_void, unvoid, IsSettled}

-- ---- policies that never fall

pub fold_low : (a b : ℕ) → a ≤ b → (log : List Log) → fold policy_after a log ≤ fold policy_after b log
fold_low a b less [] = less
fold_low a b less (Pick policy count ∷ later) = omega arith
fold_low a b less (Open number address policy ∷ later) = omega arith
fold_low a b less (Cause number cause ∷ later) = fold_low a b less later

pub falls_low : (a b : ℕ) → a ≤ b → (log : List Log) → NeverFall b log → NeverFall a log
falls_low a b less [] falls = tt
falls_low a b less (Pick policy count ∷ later) falls = (omega (arith, less, falls.0), falls.1)
falls_low a b less (Open number address policy ∷ later) falls = (omega (arith, less, falls.0), falls.1)
falls_low a b less (Cause number cause ∷ later) falls = (omega arith, falls_low a b less later falls.1)

pub fold_above : (a : ℕ) (log : List Log) → NeverFall a log → a ≤ fold policy_after a log
fold_above a [] falls = omega arith
fold_above a (entry ∷ later) falls = omega (arith, falls.0, fold_above (policy_after a entry) later falls.1)

-- ---- entries that stand for nothing

void_none : (entry : Log) → is_void entry ≡ true → singles_of entry ≡ []
void_none (Pick policy count) is = ap (λ (n : ℕ). replicate n (Pick policy 1)) (eqb-true count 0 is)
void_none (Open number address policy) is = absurd (false≢true is)
void_none (Cause number cause) is = absurd (false≢true is)

settled_first : (entry : Log) (later : List Log) → is_void entry ≡ false → IsSettled 0 (entry ∷ later)
settled_first (Pick policy zero) later is = absurd (false≢true (sym is))
settled_first (Pick policy (suc count)) later is = omega arith
settled_first (Open number address policy) later is = refl
settled_first (Cause number cause) later is = refl

unvoid_by : (b : Bool) (entry : Log) (later : List Log) → is_void entry ≡ b
    → singles (unvoid later) ≡ singles later
    → singles (cond b (unvoid later) (entry ∷ later)) ≡ singles (entry ∷ later)
unvoid_by true entry later is rest =
    rest ∙ sym (ap (λ (xs : List Log). xs ++ singles later) (void_none entry is))
unvoid_by false entry later is rest = refl

pub unvoid_singles : (log : List Log) → singles (unvoid log) ≡ singles log
unvoid_singles [] = refl
unvoid_singles (entry ∷ later) = unvoid_by (is_void entry) entry later refl (unvoid_singles later)

settled_by : (b : Bool) (entry : Log) (later : List Log) → is_void entry ≡ b → IsSettled 0 (unvoid later)
    → IsSettled 0 (cond b (unvoid later) (entry ∷ later))
settled_by true entry later is rest = rest
settled_by false entry later is rest = settled_first entry later is

pub unvoid_settled : (log : List Log) → IsSettled 0 (unvoid log)
unvoid_settled [] = refl
unvoid_settled (entry ∷ later) = settled_by (is_void entry) entry later refl (unvoid_settled later)

-- the policies of the others never fall either, and end no higher
pub record StillRises (before : ℕ) (log left : List Log) : Type 0 where
  pub falls : NeverFall before left
  pub most : fold policy_after before left ≤ fold policy_after before log

rises_by : (b : Bool) (before : ℕ) (entry : Log) (later : List Log) → NeverFall before (entry ∷ later)
    → StillRises before later (unvoid later) → StillRises before (entry ∷ later) (cond b (unvoid later) (entry ∷ later))
rises_by true before entry later falls rest =
    let low = fold_low before (policy_after before entry) falls.0 later in
    record { falls = rest.falls; most = omega (arith, rest.most, low) }
rises_by false before entry later falls rest = record { falls = falls; most = omega arith }

pub unvoid_rises : (before : ℕ) (log : List Log) → NeverFall before log → StillRises before log (unvoid log)
unvoid_rises before [] falls = record { falls = tt; most = omega arith }
unvoid_rises before (entry ∷ later) falls =
    rises_by (is_void entry) before entry later falls
    (unvoid_rises before later (falls_low before (policy_after before entry) falls.0 later falls.1))

-- ---- places

pub get_drop : {X : Type 0} (xs : List X) (n : ℕ) → slice_get xs n ≡ slice_get (drop n xs) 0
get_drop [] zero = refl
get_drop [] (suc n) = refl
get_drop (x ∷ xs) zero = refl
get_drop (x ∷ xs) (suc n) = get_drop xs n

-- what is left begins with the entry at the place
pub drop_entry : (log : List Log) (at : ℕ) (entry : Log) → slice_get log at ≡ Some entry
    → drop at log ≡ entry ∷ drop (at + 1) log
drop_entry log at entry is =
    drop_more log at entry (slice_get_within log at entry is)
    ∙ ap (λ (e : Log). e ∷ drop (at + 1) log) (get_or_from_slice_get log at entry entry is)

pub get_replicate : (n : ℕ) (x : Log) (rest : List Log) (k : ℕ) → k < n → slice_get (replicate n x ++ rest) k ≡ Some x
get_replicate zero x rest k less = absurd (omega (arith, less))
get_replicate (suc n) x rest zero less = refl
get_replicate (suc n) x rest (suc k) less = get_replicate n x rest k (omega (arith, less))

pub length_replicate : (n : ℕ) (x : Log) → length (replicate n x) ≡ n
length_replicate zero x = refl
length_replicate (suc n) x = omega (arith, length_replicate n x)

-- one more is taken of what is left
pub rest_next : (xs ys : List Log) (n used : ℕ) → drop n xs ≡ drop used ys → drop (n + 1) xs ≡ drop (used + 1) ys
rest_next xs ys n used is =
    sym (drop-drop 1 n xs) ∙ ap (λ (zs : List Log). drop 1 zs) is ∙ drop-drop 1 used ys

-- the last pick of an entry
pub picks_done : (policy count : ℕ) (later : List Log) → drop count (singles (Pick policy count ∷ later)) ≡ singles later
picks_done policy count later =
    drop_at (replicate count (Pick policy 1)) (singles later) count (length_replicate count (Pick policy 1))
