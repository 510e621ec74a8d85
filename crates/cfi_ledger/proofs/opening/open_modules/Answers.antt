use Rattle.cfi_ledger.proofs.opening.open_modules.Goals as goal

-- each guest has somewhere to begin
pub returns-clause-ok : goal.returns-clause-ok
returns-clause-ok c = record {
  started = c.in_ok-roster.ensures.ok.started;
  enter = c.in_ok-roster.ensures.ok.enter;
  image_is = c.in_ok-image.ensures.image;
  ordered = c.in_ok-image.ensures.ordered;
}
