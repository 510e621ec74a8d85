use Rattle.std.proofs.Common.{◌≡◌, ◌+◌, ◌/◌, ◌<◌, ◌≤◌, arith, sym, ap, subst, ◌∙◌}
use Rattle.cfi_model.specs.Begin.{begin_of}
use Rattle.cfi_model.specs.Run.{finish_of}
use Rattle.cfi_model.specs.Raw.{Raw}
use Rattle.rv_guest.specs.Guest.{MayLoad}
use Rattle.cfi_tables.specs.declared.view.PassView.{PassView}
use Rattle.cfi_runner.specs.Run.{HasRunOn}
use Rattle.cfi_runner.specs.declared.pause.Pause.TheVariants as pauses
use Rattle.cfi_runner.proofs.ActLemmas.{Tells}
use Rattle.cfi_runner.proofs.NeedLemmas.{finish_steps}
use Rattle.cfi_runner.proofs.WayLemmas.{IsUnderWay, starts, place_within, begins_at}
use Rattle.cfi_runner.proofs.FoundLemmas.{finds, address_within}
use Rattle.cfi_runner.proofs.PauseLemmas.{asks, halts, aligns, goes_on, spends}
use Rattle.cfi_runner.proofs.run.run_until.Goals.{in-Done, in-Need}
use Rattle.cfi_runner.proofs.run.run_until.Goals as goal

pub loop-init : goal.loop-init
loop-init g c =
    let k = g.N.TableName.key in
    record {
      under = starts k c.args.fuel c.args.pass.now c.args.guest.now c.requires.can;
      counted = sym c.steps-counter.ensures;
    }

-- the guest's place is one of the code
pub fetch-word-requires : goal.fetch-word-requires
fetch-word-requires g c =
    let k = g.N.TableName.key in
    let under = c.loop.invariant.under in
    record {
      word = subst (λ n. n / 4 < k.code_words) (sym c.pc.ensures)
          (place_within k c.args.fuel c.args.pass.now c.args.guest.now c.requires.can c.loop.pass c.loop.guest under);
      outside = under.way.keeps.parked ∙ c.requires.outside;
    }

-- the table word that is waited for has this address
pub load-loaded-requires : goal.load-loaded-requires
load-loaded-requires g c =
    let k = g.N.TableName.key in
    let begun = begins_at k c.args.fuel c.args.pass.now c.args.guest.now c.requires.can c.loop.pass c.loop.guest
    c.loop.invariant.under c.pc.result c.pc.ensures c.fetch-word.new.pass c.fetch-word.result c.fetch-word.ensures in
    let tells = subst (λ a. Tells a (begin_of c.loop.guest c.fetch-word.result))
    (sym c.begin.ensures.act ∙ c.in-Need.is) begun.tells in
    record {
      address = address_within k c.args.fuel c.args.pass.now c.args.guest.now c.requires.can c.fetch-word.new.pass
          (begin_of c.loop.guest c.fetch-word.result) begun.way c.in-Need.address tells.0;
      outside = begun.way.keeps.parked ∙ c.requires.outside;
    }

-- and may come
pub finish-requires : goal.finish-requires
finish-requires g c =
    let k = g.N.TableName.key in
    let begun = begins_at k c.args.fuel c.args.pass.now c.args.guest.now c.requires.can c.loop.pass c.loop.guest
    c.loop.invariant.under c.pc.result c.pc.ensures c.fetch-word.new.pass c.fetch-word.result c.fetch-word.ensures in
    let tells = subst (λ a. Tells a (begin_of c.loop.guest c.fetch-word.result))
    (sym c.begin.ensures.act ∙ c.in-Need.is) begun.tells in
    let found = finds k c.args.fuel c.args.pass.now c.args.guest.now c.requires.can c.fetch-word.new.pass
    (begin_of c.loop.guest c.fetch-word.result) begun.way c.in-Need.address tells.0 tells.1 c.load-loaded.new.pass
    c.load-loaded.result c.load-loaded.ensures in
    subst (λ r. MayLoad r.waits r.base.log c.load-loaded.result) (sym c.begin.ensures.state) found.may

-- it asks for a service
pub returns-in-Service : goal.returns-in-Service
returns-in-Service g c =
    let k = g.N.TableName.key in
    let begun = begins_at k c.args.fuel c.args.pass.now c.args.guest.now c.requires.can c.loop.pass c.loop.guest
    c.loop.invariant.under c.pc.result c.pc.ensures c.fetch-word.new.pass c.fetch-word.result c.fetch-word.ensures in
    let below : c.loop.guest.base.steps < c.args.fuel = omega (arith, c.loop.invariant.counted, c.loop-test.true) in
    subst (λ r. HasRunOn k c.args.fuel c.args.pass.now c.fetch-word.new.pass c.args.guest.now r
    (pauses.Service c.in-Service.number)) (sym c.begin.ensures.state)
    (asks k c.args.fuel c.args.pass.now c.args.guest.now c.requires.can c.loop.pass c.loop.guest
    c.loop.invariant.under c.fetch-word.new.pass c.fetch-word.result begun below c.in-Service.number
    (sym c.begin.ensures.act ∙ c.in-Service.is))

-- a check has stopped it
pub returns-in-Halt : goal.returns-in-Halt
returns-in-Halt g c =
    let k = g.N.TableName.key in
    let begun = begins_at k c.args.fuel c.args.pass.now c.args.guest.now c.requires.can c.loop.pass c.loop.guest
    c.loop.invariant.under c.pc.result c.pc.ensures c.fetch-word.new.pass c.fetch-word.result c.fetch-word.ensures in
    let below : c.loop.guest.base.steps < c.args.fuel = omega (arith, c.loop.invariant.counted, c.loop-test.true) in
    subst (λ r. HasRunOn k c.args.fuel c.args.pass.now c.fetch-word.new.pass c.args.guest.now r
    (pauses.Halt c.in-Halt.target)) (sym c.begin.ensures.state)
    (halts k c.args.fuel c.args.pass.now c.args.guest.now c.requires.can c.loop.pass c.loop.guest
    c.loop.invariant.under c.fetch-word.new.pass c.fetch-word.result begun below c.in-Halt.target
    (sym c.begin.ensures.act ∙ c.in-Halt.is))

-- an access was misaligned
pub returns-in-Align : goal.returns-in-Align
returns-in-Align g c =
    let k = g.N.TableName.key in
    let begun = begins_at k c.args.fuel c.args.pass.now c.args.guest.now c.requires.can c.loop.pass c.loop.guest
    c.loop.invariant.under c.pc.result c.pc.ensures c.fetch-word.new.pass c.fetch-word.result c.fetch-word.ensures in
    let below : c.loop.guest.base.steps < c.args.fuel = omega (arith, c.loop.invariant.counted, c.loop-test.true) in
    subst (λ r. HasRunOn k c.args.fuel c.args.pass.now c.fetch-word.new.pass c.args.guest.now r
    (pauses.Align c.in-Align.address)) (sym c.begin.ensures.state)
    (aligns k c.args.fuel c.args.pass.now c.args.guest.now c.requires.can c.loop.pass c.loop.guest
    c.loop.invariant.under c.fetch-word.new.pass c.fetch-word.result begun below c.in-Align.address
    (sym c.begin.ensures.act ∙ c.in-Align.is))

-- one instruction more
pub loop-preserved : goal.loop-preserved
loop-preserved g c =
    let k = g.N.TableName.key in
    let begun = begins_at k c.args.fuel c.args.pass.now c.args.guest.now c.requires.can c.loop.pass c.loop.guest
    c.loop.invariant.under c.pc.result c.pc.ensures c.fetch-word.new.pass c.fetch-word.result c.fetch-word.ensures in
    let word = c.fetch-word.result in
    let below : c.loop.guest.base.steps < c.args.fuel = omega (arith, c.loop.invariant.counted, c.loop-test.true) in
    let now : Raw = begin_of c.loop.guest word in
    let counted : now.base.steps ≡ c.loop.counter + 1 = begun.steps ∙ ap (λ n. n + 1) c.loop.invariant.counted in
    elim c.match-begin.branch [
      | in-Done w ↦ record {
        under = subst (λ (z : PassView × Raw). IsUnderWay k c.args.pass.now c.args.guest.now z.0 z.1)
            (λ i. (sym w.pass-is i, sym (w.guest-is ∙ c.begin.ensures.state) i))
            (goes_on k c.args.fuel c.args.pass.now c.args.guest.now c.requires.can c.loop.pass c.loop.guest
            c.loop.invariant.under c.fetch-word.new.pass word begun below
            (sym c.begin.ensures.act ∙ w.in-Done.is));
        counted = ap (λ r. r.base.steps) (w.guest-is ∙ c.begin.ensures.state) ∙ counted;
      }
      | in-Need w ↦
          let tells = subst (λ a. Tells a now) (sym c.begin.ensures.act ∙ w.in-Need.is) begun.tells in
          let loaded = w.load-loaded.result in
          let found = finds k c.args.fuel c.args.pass.now c.args.guest.now c.requires.can c.fetch-word.new.pass now
          begun.way w.in-Need.address tells.0 tells.1 w.load-loaded.new.pass loaded w.load-loaded.ensures in
          let is = w.guest-is ∙ w.finish.ensures ∙ ap (λ r. finish_of r loaded) c.begin.ensures.state in
          record {
            under = subst (λ (z : PassView × Raw). IsUnderWay k c.args.pass.now c.args.guest.now z.0 z.1)
                (λ i. (sym w.pass-is i, sym is i)) found.under;
            counted = ap (λ r. r.base.steps) is ∙ (finish_steps now.waits now loaded ∙ counted);
          }
    ]

-- its fuel is spent
pub returns : goal.returns
returns g c =
    let k = g.N.TableName.key in
    let most : c.steps-counter.result ≤ c.args.fuel =
    omega (arith, c.steps-counter.ensures, c.requires.can.within) in
    let end = c.loop.auto.counter-end most in
    let steps : c.loop.guest.base.steps ≡ c.args.fuel = omega (arith, c.loop.invariant.counted, c.loop-test.false) in
    subst (λ r. HasRunOn k c.args.fuel c.args.pass.now c.loop.pass c.args.guest.now r pauses.Fuel)
    (sym c.spend.ensures.state)
    (spends k c.args.fuel c.args.pass.now c.args.guest.now c.requires.can c.loop.pass c.loop.guest
    c.loop.invariant.under steps)
