use Rattle.std.proofs.Common.{◌∙◌, List, sym, subst}
use Rattle.std.proofs.lemmas.Result.{IfOk-weaker}
use Rattle.cfi_aux.specs.declared.placed.Placed.{Placed}
use Rattle.cfi_graph.specs.Live.{live_of}
use Rattle.cfi_policy.specs.Image.{HaveImage}
use Rattle.cfi_labels.proofs.LiveLemmas.{listed_live}
use Rattle.cfi_labels.proofs.live.live_modules.Goals as goal

pub returns-clause-is : goal.returns-clause-is
returns-clause-is c =
    let r = c.args.roster.now in
    let ms : List Placed = c.modules.result.now in
    IfOk-weaker c.live_list.result _ _
    (λ live is. is
    ∙ listed_live r c.live_flags.ensures.lined c.args.policy ms c.modules.ensures.value c.deref.result.now
    (c.deref.ensures.value ∙ c.in_ok-flags.ensures.flags)) c.live_list.ensures

pub returns-clause-image : goal.returns-clause-image
returns-clause-image c =
    let r = c.args.roster.now in
    let have = c.live_have_images.ensures r.code_words r.placed c.deref.result.now c.modules.ensures.loaded
    (c.series_have_graph.ensures r.code_words r.placed c.modules.ensures.series) in
    IfOk-weaker c.live_list.result _ _
    (λ live is. subst (λ (ms : List Placed). HaveImage ms r.code_words) (sym is)
    (subst (λ (ms : List Placed). HaveImage (live_of ms c.deref.result.now) r.code_words) (sym c.modules.ensures.value)
    have)) c.live_list.ensures
