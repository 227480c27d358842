-- `settings::whole` meets its contract: each name is set, or is the first that is missing.
use Rattle.std.proofs.lemmas.Result.{err_from_is_err_and}
use Rattle.settings.specs.Settings.{whole_of}
use Rattle.settings.proofs.Missing.{missing}
use Rattle.settings.proofs.whole.Goals as goal

pub returns-in_err-key : goal.returns-in_err-key
unfolding whole_of
returns-in_err-key c =
    let p = err_from_is_err_and c.from_residual.result c.from_residual.ensures.1 in
    rw (p.1, p.2) (missing c.args.seen.key _ _ _ c.in_err-key.ensures.value)

pub returns-in_err-classmark : goal.returns-in_err-classmark
unfolding whole_of
returns-in_err-classmark c =
    let p = err_from_is_err_and c.from_residual-in_err-classmark.result c.from_residual-in_err-classmark.ensures.1 in
    rw (p.1, p.2, c.in_ok-key.ensures.ok_part) (missing c.args.seen.classmark _ _ _ c.in_err-classmark.ensures.value)

pub returns-in_err-octets : goal.returns-in_err-octets
unfolding whole_of
returns-in_err-octets c =
    let p = err_from_is_err_and c.from_residual-in_err-octets.result c.from_residual-in_err-octets.ensures.1 in
    rw (p.1, p.2, c.in_ok-key.ensures.ok_part, c.in_ok-classmark.ensures.ok_part) (missing c.args.seen.identity _ _ _ c.in_err-octets.ensures.value)

pub returns-in_err-joining : goal.returns-in_err-joining
unfolding whole_of
returns-in_err-joining c =
    let p = err_from_is_err_and c.from_residual-in_err-joining.result c.from_residual-in_err-joining.ensures.1 in
    rw (p.1, p.2, c.in_ok-key.ensures.ok_part, c.in_ok-classmark.ensures.ok_part, c.in_ok-octets.ensures.ok_part) (missing c.args.seen.joining _ _ _ c.in_err-joining.ensures.value)

pub returns-in_err-invitation : goal.returns-in_err-invitation
unfolding whole_of
returns-in_err-invitation c =
    let p = err_from_is_err_and c.from_residual-in_err-invitation.result c.from_residual-in_err-invitation.ensures.1 in
    rw (p.1, p.2, c.in_ok-key.ensures.ok_part, c.in_ok-classmark.ensures.ok_part, c.in_ok-octets.ensures.ok_part, c.in_ok-joining.ensures.ok_part) (missing c.args.seen.invitation _ _ _ c.in_err-invitation.ensures.value)

pub returns : goal.returns
unfolding whole_of
returns c = rw (c.in_ok-key.ensures.ok_part, c.in_ok-classmark.ensures.ok_part, c.in_ok-octets.ensures.ok_part, c.in_ok-joining.ensures.ok_part, c.in_ok-invitation.ensures.ok_part)
