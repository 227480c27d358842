-- `transaction_fits` meets its contract: by whether a value is awaited.
use Rattle.received.proofs.Rules.{fits_awaited, fits_kept}
use Rattle.received.proofs.transaction_fits.Goals as goal

pub returns-then-talk : goal.returns-then-talk
returns-then-talk c = fits_awaited _ _ _ _ c.expected_flag-flag.ensures c.if-talk.true c.awaited_is.ensures

pub returns : goal.returns
returns c = fits_kept _ _ _ _ c.expected_flag-flag.ensures c.if-talk.false c.transaction_is.ensures
