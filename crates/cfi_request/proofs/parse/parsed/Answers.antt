use Rattle.std.proofs.Common.{rules, arith, ap, ◌≡◌, ◌≤◌, ◌∙◌, subst, length, string_bytes}
use Rattle.std.proofs.lemmas.List.{length-map}
use Rattle.std.proofs.lemmas.Result.{IfErr-weaker, IfOk-weaker}
use Rattle.clap.specs.Lexer.{usize_max}
use Rattle.clap.specs.Words.{App, HasMatchesOf, app_of, takes}
use Rattle.cfi_request.specs.Parse.{reader}
use Rattle.cfi_request.specs.Words.{texts}
use Rattle.cfi_request.proofs.SplitLemmas.{has_words}
use Rattle.cfi_request.proofs.TakesLemmas.{words_taken}
use Rattle.cfi_request.proofs.parse.parsed.Goals as goal

-- the matches have the words, and words that are there are taken
pub returns : goal.returns
returns c =
    let words = texts c.args.words.now in
    let parse = c.try_get_matches_from in
    let is : app_of c.in_ok-command.command ≡ reader = c.in_ok-command.ensures in
    let most : length c.args.words.now ≤ usize_max = search rules in
    let fits : length words ≤ usize_max = omega (arith, most, length-map c.args.words.now string_bytes) in
    record {
      ok = IfOk-weaker parse.result _ _
          (λ m matches. has_words words m c.requires.operands (subst (λ (a : App). HasMatchesOf a words m) is matches))
          parse.ensures.matches;
      fault = IfErr-weaker parse.result _ _
          (λ error passes some. passes (ap (λ (a : App). takes a words) is
          ∙ words_taken words c.requires.operands fits some))
          parse.ensures.passes;
    }
