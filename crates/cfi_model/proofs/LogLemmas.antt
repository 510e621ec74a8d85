-- What a log's end says of it, and that its room suffices for one pick more.
use Rattle.std.proofs.Common.{◌≡◌, ◌≢◌, ℕ, ◌+◌, ◌-◌, ◌<◌, ◌≤◌, false, cond, List, [], ◌∷◌, ◌++◌, length, take, slice_set, Option, Some, None, refl, sym, ◌∙◌, ap, subst, arith, rules}
use Rattle.std.proofs.lemmas.Grind.{common_steps}
use Rattle.std.proofs.Common.{tests}
use Rattle.std.proofs.lemmas.List.{take_all, take_more, take_more_set, length-set, length_push, get_or_push}
use Rattle.std.proofs.lemmas.Option.{slice_get_within, get_or_from_slice_get, slice_get_read}
use Rattle.cfi_unit.specs.declared.log.Log.{Log}
use Rattle.cfi_unit.specs.declared.log.Log.TheVariants.{Pick, Open, Cause}
use Rattle.cfi_word.specs.declared.limits.TheConstants.{MAX_LOG, MAX_POLICY}
use Rattle.cfi_model.specs.Log.{HasRoom, opens, last_policy, last_of, is_pick_of, pick_entries, is_pick, is_open, policy_after, spent_by, last_picks, picks_in}

-- the log but for its last entry
abbrev front_of : List Log → List Log
front_of log = take (length log - 1) log

pub within : (log : List Log) (e : Log) → last_of log ≡ Some e → 0 < length log
within [] e h = cc
within (x ∷ xs) e h = search (rules, arith)

-- the whole of a list that is not empty
whole : (log : List Log) → 0 < length log → take (length log - 1 + 1) log ≡ log
whole log h = take_all _ log (omega arith)

-- the log is its front and its last entry
pub ends_with : (log : List Log) (e : Log) → last_of log ≡ Some e → log ≡ take (length log - 1) log ++ e ∷ []
ends_with log e h =
    let lt = slice_get_within log (length log - 1) e h in
    let more = take_more log (length log - 1) e lt in
    let is = get_or_from_slice_get log (length log - 1) e e h in
    let all = whole log (within log e h) in
    cc

pub set_last : (log : List Log) (x : Log) → 0 < length log
    → slice_set log (length log - 1) x ≡ take (length log - 1) log ++ x ∷ []
set_last log x h =
    let more = take_more_set log (length log - 1) x (omega arith) in
    let same = length-set log (length log - 1) x in
    let all = take_all (length log - 1 + 1) (slice_set log (length log - 1) x) (omega arith) in
    cc

-- the last entry of a log that was pushed to
pub last_push : (log : List Log) (x : Log) → last_of (log ++ x ∷ []) ≡ Some x
last_push log x =
    slice_get_read (log ++ x ∷ []) (length log + 1) (length (log ++ x ∷ []) - 1) x (sym (length_push log x))
    (omega (arith, length_push log x)) (sym (get_or_push log x x _ (omega (arith, length_push log x))))

pub opens_push : (log : List Log) (x : Log) → opens (log ++ x ∷ []) ≡ opens log + cond (is_open x) 1 0
opens_push log x = grind (arith, common_steps)

pub picks_push : (log : List Log) (x : Log) → pick_entries (log ++ x ∷ []) ≡ pick_entries log + cond (is_pick x) 1 0
picks_push log x = grind (arith, common_steps)

pub policy_push : (log : List Log) (x : Log) → last_policy (log ++ x ∷ []) ≡ policy_after (last_policy log) x
policy_push log x = grind (arith, common_steps)

-- one pick more in the last entry needs no room
pub room_same : (front : List Log) (policy count other : ℕ)
    → HasRoom (front ++ Pick policy count ∷ []) → HasRoom (front ++ Pick policy other ∷ [])
room_same front policy count other h =
    let old : Log = Pick policy count in
    let new : Log = Pick policy other in
    let o = opens_push front old in
    let o2 = opens_push front new in
    let p = picks_push front old in
    let p2 = picks_push front new in
    let l = policy_push front old in
    let l2 = policy_push front new in
    let s = ap spent_by (last_push front old) in
    let s2 = ap spent_by (last_push front new) in
    let n = length_push front old in
    let n2 = length_push front new in
    record {
      opens_most = omega (arith, h.opens_most);
      policy_most = omega (arith, h.policy_most);
      picks_most = omega (arith, h.picks_most);
      length_is = omega (arith, h.length_is);
    }

-- the last policy of a log that ends with a pick
pub policy_at_end : (log : List Log) (policy count : ℕ) → last_of log ≡ Some (Pick policy count)
    → last_policy log ≡ policy
policy_at_end log policy count h = ap last_policy (ends_with log (Pick policy count) h)
    ∙ policy_push (front_of log) (Pick policy count)

-- a pick of another policy at the end has a lower one
pub spent_below : (log : List Log) (policy : ℕ) (e : Option Log) → last_of log ≡ e → is_pick_of policy e ≡ false
    → last_policy log ≤ policy → last_policy log + spent_by e ≤ policy
spent_below log policy (Some (Pick p count)) is other rises =
    let last = policy_at_end log p count is in
    let apart : p ≢ policy = search (rules, tests) in
    omega arith
spent_below log policy (Some (Open n address p)) is other rises = omega arith
spent_below log policy (Some (Cause n cause)) is other rises = omega arith
spent_below log policy None is other rises = omega arith

-- there is room for an entry of one pick
pub room_more : (log : List Log) (policy : ℕ) → HasRoom log → is_pick_of policy (last_of log) ≡ false
    → last_policy log ≤ policy → policy ≤ MAX_POLICY → HasRoom (log ++ Pick policy 1 ∷ [])
room_more log policy h other rises most =
    let new : Log = Pick policy 1 in
    let o = opens_push log new in
    let p = picks_push log new in
    let l = policy_push log new in
    let s = ap spent_by (last_push log new) in
    let n = length_push log new in
    let below = spent_below log policy (last_of log) refl other rises in
    record {
      opens_most = omega (arith, h.opens_most);
      policy_most = omega arith;
      picks_most = omega (arith, h.picks_most);
      length_is = omega (arith, h.length_is);
    }

-- and one pick more at the end keeps the room and the opens
pub room_set : (log : List Log) (policy count other : ℕ) → last_of log ≡ Some (Pick policy count) → HasRoom log
    → HasRoom (slice_set log (length log - 1) (Pick policy other))
room_set log policy count other is h =
    let e = ends_with log (Pick policy count) is in
    let n = set_last log (Pick policy other) (within log _ is) in
    subst HasRoom (sym n) (room_same (front_of log) policy count other (subst HasRoom e h))

pub opens_set : (log : List Log) (policy count other : ℕ) → last_of log ≡ Some (Pick policy count)
    → opens (slice_set log (length log - 1) (Pick policy other)) ≡ opens log
opens_set log policy count other is =
    let e = ends_with log (Pick policy count) is in
    let n = set_last log (Pick policy other) (within log _ is) in
    ap opens n ∙ opens_push (front_of log) (Pick policy other)
    ∙ sym (ap opens e ∙ opens_push (front_of log) (Pick policy count))

-- a log with room for a pick more is not full
pub room_bound : (log : List Log) (policy : ℕ) → HasRoom (log ++ Pick policy 1 ∷ []) → length log < MAX_LOG
room_bound log policy h =
    let s = ap spent_by (last_push log (Pick policy 1)) in
    let n = length_push log (Pick policy 1) in
    omega (arith, h.length_is, h.opens_most, h.picks_most, h.policy_most)

-- the picks that a log's last entry counts, after one pick more
pub picks_more : (log : List Log) (policy count : ℕ) → last_of log ≡ Some (Pick policy count)
    → last_picks (slice_set log (length log - 1) (Pick policy (count + 1))) ≤ last_picks log + 1
picks_more log policy count is =
    let n = set_last log (Pick policy (count + 1)) (within log _ is) in
    let new = ap last_picks n ∙ ap picks_in (last_push (front_of log) (Pick policy (count + 1))) in
    let old = ap picks_in is in
    omega arith

pub picks_push_one : (log : List Log) (policy : ℕ) → last_picks (log ++ Pick policy 1 ∷ []) ≤ last_picks log + 1
picks_push_one log policy =
    let new = ap picks_in (last_push log (Pick policy 1)) in
    omega arith
