-- The raw machine over what it is given: fetched and loaded words, and the answers of services.
use Rattle.std.specs.Prelude.{ℕ, ◌+◌, Option, Some, None, List}
use Rattle.std.specs.List.{fold}
use Rattle.cfi_word.specs.Word.{id_in}
use Rattle.cfi_model.specs.declared.act.Wait.{Wait}
use Rattle.cfi_model.specs.declared.act.Wait.TheVariants as waits
use Rattle.cfi_model.specs.Service.{Reply, Service, service_of, served}
use Rattle.cfi_model.specs.Raw.{Raw, with_reg}
use Rattle.cfi_model.specs.Begin.{begin_of}

-- the wait is over
abbrev pub resumed : Raw → Raw
resumed r = record r { waits = None }

-- a table word has come: the register gets its ID, and the whole word is kept
abbrev pub finish_as : Option Wait → Raw → (word : ℕ) → Raw
finish_as None r word = r
finish_as (Some (waits.Tary at rd)) r word = record (resumed (with_reg r rd (id_in word))) { tary = Some word }
finish_as (Some (waits.Bary slot rd)) r word = record (resumed (with_reg r rd (id_in word))) { bary = Some word }
finish_as (Some (waits.Service number)) r word = r

-- what a word makes of a state that waits for one
abbrev pub finish_of : Raw → (word : ℕ) → Raw
finish_of r word = finish_as r.waits r word

-- a service has ended, which is a unit of its own, so no table word is kept
abbrev pub serve_by : Service → Reply → Raw → Raw
serve_by service reply r = record r {
  base = record (served service reply r.base) { units = r.base.units + 1 };
  bary = None;
  tary = None;
  waits = None;
}

-- what a reply makes of a state that waits in a service; of another nothing
abbrev pub serve_as : Option Wait → Raw → Reply → Raw
serve_as None r reply = r
serve_as (Some (waits.Tary at rd)) r reply = r
serve_as (Some (waits.Bary slot rd)) r reply = r
serve_as (Some (waits.Service number)) r reply = serve_by (service_of number) reply r

-- the same of a state, by what it waits for
abbrev pub serve_of : Raw → Reply → Raw
serve_of r reply = serve_as r.waits r reply

-- what the machine takes from outside: a word, and the end of a service with the answer that an open gets
pub data Take : Type 0 where
  Word : (word : ℕ) → Take
  Served : Reply → Take

-- a word is the next instruction, or what a table load waits for
abbrev pub take_word : Option Wait → Raw → (word : ℕ) → Raw
take_word None r word = begin_of r word
take_word (Some wait) r word = finish_as (Some wait) r word

-- what is taken makes of a state: a word or a reply
abbrev pub take_one : Raw → Take → Raw
take_one r (Word word) = take_word r.waits r word
take_one r (Served reply) = serve_of r reply

-- the state after all that was taken, from first to last
abbrev pub run_of : Raw → List Take → Raw
run_of r takes = fold take_one r takes
