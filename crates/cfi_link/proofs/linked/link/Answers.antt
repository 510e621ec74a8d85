use Rattle.std.proofs.Common.{◌≡◌, ◌∙◌, None, sym, subst}
use Rattle.cfi_link.specs.Joined.{Joined, joined_of}
use Rattle.cfi_link.specs.Chosen.{twice_in}
use Rattle.cfi_link.specs.Fault.{passed_by}
use Rattle.cfi_link.specs.Linked.{IsMadeOf}
use Rattle.cfi_link.specs.inner.Made.{AreSound}
use Rattle.cfi_link.proofs.SoundLemmas.{sound_all}
use Rattle.cfi_link.proofs.MadeLemmas.{none_left, sound_made}
use Rattle.cfi_link.proofs.TextSizeLemmas.{text_size}
use Rattle.cfi_link.proofs.linked.link.Goals as goal

pub make-requires-clause-sound : goal.make-requires-clause-sound
make-requires-clause-sound c =
    let modules = c.args.modules.now in
    let none : passed_by modules ≡ None =
    sym c.passed_by.ensures ∙ none_left c.passed_by.result c.in_default.not-Some in
    subst AreSound (sym c.in_ok-join.ensures)
    (sound_all modules c.requires.sound c.requires.written c.requires.count none)

pub returns-clause-ok : goal.returns-clause-ok
returns-clause-ok c = record {
  possible = record {
    within = record {
      texts = c.in_ok-check_texts.ensures.ok;
      limits = sym c.passed_by.ensures ∙ none_left c.passed_by.result c.in_default.not-Some;
    };
    once = subst (λ (j : Joined). twice_in j.symbols ≡ None) c.in_ok-join.ensures c.in_ok-linked.ensures.once;
  };
  made = subst (λ (j : Joined). IsMadeOf j c.in_ok-linked.linked) c.in_ok-join.ensures c.in_ok-linked.ensures.ok;
}

pub returns-clause-sound : goal.returns-clause-sound
returns-clause-sound c =
    let modules = c.args.modules.now in
    let linked = c.in_ok-linked.linked in
    let joined = joined_of modules in
    let none : passed_by modules ≡ None =
    sym c.passed_by.ensures ∙ none_left c.passed_by.result c.in_default.not-Some in
    let sound = sound_all modules c.requires.sound c.requires.written c.requires.count none in
    let made : IsMadeOf joined linked =
    subst (λ (j : Joined). IsMadeOf j linked) c.in_ok-join.ensures c.in_ok-linked.ensures.ok in
    sound_made joined linked sound none (text_size joined linked.object.text sound.words made.text) made
