-- One closed image is a history, and a guest that is opened at its start shows the policy machine.
use Rattle.std.proofs.Common.{ℕ, List, length, refl, arith}
use Rattle.cfi_unit.specs.declared.fill.Fill.{Fill}
use Rattle.cfi_word.specs.declared.lists.Image.{Image}
use Rattle.cfi_word.specs.Table.{IsSize}
use Rattle.cfi_model.specs.Closed.{IsClosed}
use Rattle.cfi_model.specs.State.{opened}
use Rattle.cfi_model.specs.Raw.{raw_opened}
use Rattle.cfi_model.specs.History.{History, IsStart, IsHistory, fixed}
use Rattle.cfi_model.specs.Shows.{IsReady, IsBetween}

pub fixed_history : (image : Image) → IsSize (length image.code) → IsClosed (length image.code) image
    → IsHistory (fixed image) image.code
fixed_history image size closed = record {
  size = size;
  versions_least = omega arith;
  versions_most = omega arith;
  epochs_fit = λ epoch is. omega (arith, is.most);
  policies_fit = λ epoch is. omega arith;
  classes = λ epoch is. closed.1.classes;
  closed = λ epoch is. closed;
  kept = λ epoch place is some. refl;
}

pub opened_ready : (h : History) (number entry : ℕ) (fills : List Fill) → IsStart h entry
    → IsReady h (opened number entry fills) × IsBetween 0 (opened number entry fills) (raw_opened number entry fills)
opened_ready h number entry fills start = (
  record { zero_is = refl; start = λ going. start },
  record { base = refl; idle = refl; fresh = λ going. (refl, refl, refl) },
)
