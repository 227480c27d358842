-- `settings_line::with_line` meets its contract: each name's two returns are one law of `setting_of` and of what was read under the name.
use Rattle.std.proofs.lemmas.Result.{err_from_is_err_and}
use Rattle.settings_line.proofs.Turns.{line-key, line-classmark, line-identity, line-joining, line-invitation, line_unknown}
use Rattle.settings_line.proofs.with_line.Goals as goal

pub returns-in_err-key : goal.returns-in_err-key
returns-in_err-key c =
    let p = err_from_is_err_and c.from_residual.result c.from_residual.ensures.1 in
    rw (p.1, p.2) (line-key c.args.line.now _ c.args.seen c.in-Some.ensures.cases.0 c.in-Some.ensures.cases.1 _ c.read_key.ensures _ c.in_err-key.ensures)

pub returns-in-Some : goal.returns-in-Some
returns-in-Some c = line-key c.args.line.now _ c.args.seen c.in-Some.ensures.cases.0 c.in-Some.ensures.cases.1 _ c.read_key.ensures _ c.in_ok-key.ensures

pub returns-in_err-classmark : goal.returns-in_err-classmark
returns-in_err-classmark c =
    let p = err_from_is_err_and c.from_residual-in_err-classmark.result c.from_residual-in_err-classmark.ensures.1 in
    rw (p.1, p.2) (line-classmark c.args.line.now _ c.args.seen c.in_default.ensures.cases c.in-Some-strip_prefix.ensures.cases.0 c.in-Some-strip_prefix.ensures.cases.1 _ c.read_classmark.ensures _ c.in_err-classmark.ensures)

pub returns-in-Some-strip_prefix : goal.returns-in-Some-strip_prefix
returns-in-Some-strip_prefix c = line-classmark c.args.line.now _ c.args.seen c.in_default.ensures.cases c.in-Some-strip_prefix.ensures.cases.0 c.in-Some-strip_prefix.ensures.cases.1 _ c.read_classmark.ensures _ c.in_ok-classmark.ensures

pub returns-in_err-identity : goal.returns-in_err-identity
returns-in_err-identity c =
    let p = err_from_is_err_and c.from_residual-in_err-identity.result c.from_residual-in_err-identity.ensures.1 in
    rw (p.1, p.2) (line-identity c.args.line.now _ c.args.seen c.in_default.ensures.cases c.in_default-strip_prefix.ensures.cases c.in-Some-strip_prefix-2.ensures.cases.0 c.in-Some-strip_prefix-2.ensures.cases.1 _ c.read_identity.ensures _ c.in_err-identity.ensures)

pub returns-in-Some-strip_prefix-2 : goal.returns-in-Some-strip_prefix-2
returns-in-Some-strip_prefix-2 c = line-identity c.args.line.now _ c.args.seen c.in_default.ensures.cases c.in_default-strip_prefix.ensures.cases c.in-Some-strip_prefix-2.ensures.cases.0 c.in-Some-strip_prefix-2.ensures.cases.1 _ c.read_identity.ensures _ c.in_ok-identity.ensures

pub returns-in_err-joining : goal.returns-in_err-joining
returns-in_err-joining c =
    let p = err_from_is_err_and c.from_residual-in_err-joining.result c.from_residual-in_err-joining.ensures.1 in
    rw (p.1, p.2) (line-joining c.args.line.now _ c.args.seen c.in_default.ensures.cases c.in_default-strip_prefix.ensures.cases c.in_default-strip_prefix-2.ensures.cases c.in-Some-strip_prefix-3.ensures.cases.0 c.in-Some-strip_prefix-3.ensures.cases.1 _ c.read_joining.ensures _ c.in_err-joining.ensures)

pub returns-in-Some-strip_prefix-3 : goal.returns-in-Some-strip_prefix-3
returns-in-Some-strip_prefix-3 c = line-joining c.args.line.now _ c.args.seen c.in_default.ensures.cases c.in_default-strip_prefix.ensures.cases c.in_default-strip_prefix-2.ensures.cases c.in-Some-strip_prefix-3.ensures.cases.0 c.in-Some-strip_prefix-3.ensures.cases.1 _ c.read_joining.ensures _ c.in_ok-joining.ensures

pub returns-in_err-invitation : goal.returns-in_err-invitation
returns-in_err-invitation c =
    let p = err_from_is_err_and c.from_residual-in_err-invitation.result c.from_residual-in_err-invitation.ensures.1 in
    rw (p.1, p.2) (line-invitation c.args.line.now _ c.args.seen c.in_default.ensures.cases c.in_default-strip_prefix.ensures.cases c.in_default-strip_prefix-2.ensures.cases c.in_default-strip_prefix-3.ensures.cases c.in-Some-strip_prefix-4.ensures.cases.0 c.in-Some-strip_prefix-4.ensures.cases.1 _ c.read_invitation.ensures _ c.in_err-invitation.ensures)

pub returns-in-Some-strip_prefix-4 : goal.returns-in-Some-strip_prefix-4
returns-in-Some-strip_prefix-4 c = line-invitation c.args.line.now _ c.args.seen c.in_default.ensures.cases c.in_default-strip_prefix.ensures.cases c.in_default-strip_prefix-2.ensures.cases c.in_default-strip_prefix-3.ensures.cases c.in-Some-strip_prefix-4.ensures.cases.0 c.in-Some-strip_prefix-4.ensures.cases.1 _ c.read_invitation.ensures _ c.in_ok-invitation.ensures

pub returns : goal.returns
returns c = line_unknown c.args.line.now c.args.seen c.in_default.ensures.cases c.in_default-strip_prefix.ensures.cases c.in_default-strip_prefix-2.ensures.cases c.in_default-strip_prefix-3.ensures.cases c.in_default-strip_prefix-4.ensures.cases
