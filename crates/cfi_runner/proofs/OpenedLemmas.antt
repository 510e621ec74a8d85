-- What passes see between the runs of their guests, and guests that can run.
use Rattle.std.proofs.Common.{◌≡◌, ℕ, ◌+◌, ◌-◌, ◌≤◌, Some, List, [], ◌∷◌, ◌++◌, length, slice_index, slice_index_or, refl, sym, ap, subst, arith}
use Rattle.rv_insn.specs.declared.insn.Insn.TheVariants as insns
use Rattle.rv_insn.specs.InsnOf.{insn_of}
use Rattle.cfi_unit.specs.declared.fill.Fill.{Fill}
use Rattle.cfi_word.specs.Table.{IsSize, Code}
use Rattle.cfi_word.specs.Table as places
use Rattle.cfi_model.specs.declared.history.Access.{Access}
use Rattle.cfi_model.specs.Begin.{act_by, begin_as, begin_by, begin_of}
use Rattle.cfi_model.specs.Closed.{IsStartIn}
use Rattle.cfi_model.specs.History.{IsStart}
use Rattle.cfi_model.specs.Raw.{Raw, raw_opened}
use Rattle.cfi_model.specs.Run.{serve_of}
use Rattle.cfi_model.specs.Service.{too_many}
use Rattle.cfi_model.specs.Tables.{IsTables}
use Rattle.cfi_model.specs.Words.{no_entry}
use Rattle.cfi_model.specs.World.{first_entry}
use Rattle.cfi_model.proofs.FixedLemmas.{opened_ready}
use Rattle.cfi_model.proofs.TableLemmas.{opened_are}
use Rattle.cfi_tables.specs.Key.{Key, key_by}
use Rattle.cfi_tables.specs.Keeping.{Keeping, last_of, opened_keeping}
use Rattle.cfi_tables.specs.Loads.{IsFetch, IsQuiet, access_of}
use Rattle.cfi_tables.specs.Rule.{AgreesWith}
use Rattle.cfi_model.proofs.TableMomentLemmas.{by_same}
use Rattle.cfi_tables.proofs.Prefixes.{prefix_same}
use Rattle.cfi_tables.specs.Views.{admitted, last_moment, noted, sight_of, tables_with}
use Rattle.cfi_tables.specs.declared.view.PassView.{PassView}
use Rattle.cfi_tables.specs.declared.view.Sight.{Sight}
use Rattle.cfi_tables.proofs.Prefixes.{prefix_length}
use Rattle.cfi_runner.specs.Laws.{IsServedRun}
use Rattle.cfi_runner.specs.Run.{CanRunOn}
use Rattle.cfi_runner.specs.Seen.{history_seen, IsSight, SeesMore}
use Rattle.cfi_runner.proofs.CallLemmas.{call_image, call_closed, call_starts}
use Rattle.cfi_runner.proofs.PauseLemmas.{asks}
use Rattle.cfi_runner.proofs.WayLemmas.{begins, starts}

-- ---- what passes see

module _ (k : Key) (keeping : Keeping) (accesses : List Access) (is : IsTables (tables_with k keeping.entries)) where
  abbrev sight : Sight
  sight = sight_of k keeping accesses

  pub all_sight : IsSight k sight
  all_sight = record { tables = is; least = omega arith; most = omega (arith, is.some) }

  pub all_start : (entry : ℕ) → IsStartIn (last_of keeping.entries).image entry → IsStart (history_seen k sight) entry
  all_start entry starts =
      let back : length keeping.entries - 1 ≡ k.first + (length keeping.entries - 1) - k.first = omega arith in
      record {
        epoch = sight.latest;
        known = record { least = omega arith; most = omega arith };
        starts = subst (λ n. IsStartIn (slice_index_or keeping.entries n no_entry).image entry) back starts;
      }

pub noted_sees : (k : Key) (keeping : Keeping) (p : PassView) → IsTables (tables_with k keeping.entries)
    → AgreesWith k keeping.entries keeping.refusals p.sight → IsSight k p.sight
    → SeesMore k p.sight (noted k keeping p).sight
noted_sees k keeping p is agrees was =
    let long = prefix_length p.sight.entries keeping.entries agrees.begins in
    record {
      entries = agrees.begins;
      latest = omega (arith, was.most, long);
      is = all_sight k keeping p.sight.accesses is;
    }

pub quiet_sees : (k : Key) (epoch : ℕ) (p q : PassView) → IsQuiet k epoch p q → IsSight k p.sight
    → SeesMore k p.sight q.sight
quiet_sees k epoch p q quiet was =
    let load = quiet.load in
    record {
      entries = load.grows;
      latest = omega (arith, load.tells.0, load.tells.1);
      is = record {
        tables = load.tables;
        least = omega (arith, was.least, load.tells.0, load.tells.1);
        most = omega (arith, load.tells.1, load.epoch, load.word.within);
      };
    }

-- ---- a guest that is opened

pub opened_can : (k : Key) (p : PassView) (fuel number entry : ℕ) (fills : List Fill) → IsSight k p.sight
    → IsStart (history_seen k p.sight) entry → CanRunOn k fuel p (raw_opened number entry fills)
opened_can k p fuel number entry fills sight starts = record {
  sight = sight;
  going = refl;
  idle = refl;
  fresh = (refl, refl);
  ready = (opened_ready (history_seen k p.sight) number entry fills starts).0;
  logged = omega arith;
  within = omega arith;
}

-- ---- one that asks for a service

abbrev key : Key
key = key_by 1024 3 0 (call_image 1024)

abbrev keeping : Keeping
keeping = opened_keeping key

abbrev pass : PassView
pass = admitted key keeping 0

-- at the first service
abbrev guest : Raw
guest = raw_opened 0 156 []

size : IsSize 1024
size = record { multiple = refl; least = omega arith; most = omega arith }

tables : IsTables (tables_with key (first_entry (call_image 1024) ∷ []))
tables = opened_are 1024 3 0 (call_image 1024) size (omega arith) (omega arith) (omega arith) (call_closed 1024 size)

can : (fuel : ℕ) → CanRunOn key fuel pass guest
can fuel = opened_can key pass fuel 0 156 [] (all_sight key keeping [] tables)
    (all_start key keeping [] tables 156 (call_starts 1024 5 (omega arith)))

-- its word
abbrev word : ℕ
word = 115

fetched : PassView
fetched = record pass {
  sight = record pass.sight {
    accesses = [] ++ access_of 1024 (places.Code 39) word (last_moment key pass.sight) ∷ [];
  };
}

fetch : IsFetch key 39 word pass fetched
unfolding fetched
fetch = record {
  is = refl;
  now = record {
    had = prefix_same pass.sight.had;
    order = by_same (last_moment key pass.sight);
    tables = tables;
    is = refl;
    accesses = refl;
  };
  code = λ number within some.
      (let first : number ≡ 0 = omega (arith, within) in
      subst (λ n. word ≡ slice_index (slice_index_or pass.sight.entries n no_entry).image.code 39) (sym first) refl);
}

ecall : insn_of word ≡ Some insns.Ecall
unfolding insn_of
ecall = refl

called : begin_of guest word ≡ begin_as insns.Ecall guest
called = ap (λ o. begin_by o guest) ecall

pub some_served : (fuel : ℕ) → 1 ≤ fuel → (k : Key) × IsServedRun k fuel
some_served fuel least =
    let under = starts key fuel pass guest (can fuel) in
    let begun = begins key fuel pass guest (can fuel) pass guest under fetched word fetch in (
      key,
      record {
        p = pass;
        q = fetched;
        old = guest;
        new = begin_of guest word;
        can = can fuel;
        outside = refl;
        run = asks key fuel pass guest (can fuel) pass guest under fetched word begun (omega (arith, least)) 0
            (ap (λ o. act_by o guest) ecall);
        may = record { fits = λ e. absurd (omega (arith, e)); known = λ e. absurd (omega (arith, e)) };
        going = ap (λ r. (serve_of r too_many).base.stop) called;
      },
    )
