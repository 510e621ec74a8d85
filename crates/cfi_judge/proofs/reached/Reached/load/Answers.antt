use Rattle.std.proofs.Common.{refl}
use Rattle.std.proofs.lemmas.Option.{slice_get_within}
use Rattle.cfi_ledger.proofs.JoinedLemmas.{entrant_joined}
use Rattle.cfi_judge.proofs.LineLemmas.{load_fault, load_kept, loads}
use Rattle.cfi_judge.proofs.ItemLemmas.{item_there}
use Rattle.cfi_judge.proofs.reached.Reached.load.Goals as goal

pub returns-in-Ok-clause-ok : goal.returns-in-Ok-clause-ok
returns-in-Ok-clause-ok c =
    let ms = c.args.modules.now in
    let m = c.index-modules-load.result in
    let free = c.is_unloaded.ensures.0 c.in_ok-must-3.ensures.ok in
    let there = item_there ms c.args.load.number m (slice_get_within ms c.args.load.number free.unplaced free.is)
    c.index-modules-load.is in
    let name = c.of-entrant.result.name.now in
    let joined = entrant_joined c.of-entrant.result c.args.load.number name c.args.load.policy
    c.of-entrant.ensures.number refl
    c.of-entrant.ensures.policy m c.args.self.roster c.in-Ok.roster c.in-Ok.ensures.ok in
    loads c.args.plan.now ms c.args.self c.requires.reached c.args.load.number m there c.args.load.epoch
    c.args.load.policy name
    c.in-Ok.roster joined (c.is_next_epoch.ensures.0 c.in_ok-must.ensures.ok)
    (c.is_next_policy.ensures.0 c.in_ok-must-2.ensures.ok) free

pub returns-in-Ok-clause-kept : goal.returns-in-Ok-clause-kept
returns-in-Ok-clause-kept c =
    let ms = c.args.modules.now in
    let m = c.index-modules-load.result in
    let free = c.is_unloaded.ensures.0 c.in_ok-must-3.ensures.ok in
    let there = item_there ms c.args.load.number m (slice_get_within ms c.args.load.number free.unplaced free.is)
    c.index-modules-load.is in
    let name = c.of-entrant.result.name.now in
    let joined = entrant_joined c.of-entrant.result c.args.load.number name c.args.load.policy
    c.of-entrant.ensures.number refl
    c.of-entrant.ensures.policy m c.args.self.roster c.in-Ok.roster c.in-Ok.ensures.ok in
    load_kept c.args.plan.now ms c.args.self c.requires.reached c.args.load.number m there c.args.load.epoch
    c.args.load.policy name
    c.in-Ok.roster joined (c.is_next_policy.ensures.0 c.in_ok-must-2.ensures.ok) free.absent c.of-entrant.ensures.name

pub returns-in-Err-clause-fault : goal.returns-in-Err-clause-fault
returns-in-Err-clause-fault c =
    let ms = c.args.modules.now in
    let m = c.index-modules-load.result in
    let free = c.is_unloaded.ensures.0 c.in_ok-must-3.ensures.ok in
    let there = item_there ms c.args.load.number m (slice_get_within ms c.args.load.number free.unplaced free.is)
    c.index-modules-load.is in
    load_fault c.args.plan.now ms c.args.self c.requires.reached c.args.load.number m there c.in-Err.fault
    c.in-Err.ensures.fault c.unjoined.result c.unjoined.ensures c.args.load.epoch c.args.load.policy
