-- `digits_before` meets its contract: the position that the chain finds is the number.
use Rattle.std.proofs.Common.{◌≡◌, ◌∙◌, sym, ap, length, not, rules, tests}
use Rattle.std.proofs.lemmas.Iterator.{YieldsList-from_slice}
use Rattle.std.proofs.lemmas.Iterator.Search.{position_from_yields_List}
use Rattle.std.specs.List.{position}
use Rattle.std.specs.Option.{unwrap_or}
use Rattle.text.specs.Hex.{is_digit}
use Rattle.text.proofs.Places.{position_else, digits-position}
use Rattle.text.proofs.hex.digits_before.Goals as goal

pub returns-clause-value : goal.returns-clause-value
returns-clause-value c =
    let found : c.position.result ≡ position (λ x. not (is_digit c.args.either x)) c.args.text.now = position_from_yields_List (λ x. not (is_digit c.args.either x)) _ _ c.position.result c.position.ensures.ran (YieldsList-from_slice c.args.text.now cc) (λ x b q k. search (rules, tests)) in
    c.unwrap_or.ensures ∙ ap (λ p. unwrap_or p (length c.args.text.now)) found ∙ position_else (λ x. not (is_digit c.args.either x)) c.args.text.now ∙ sym (digits-position c.args.either c.args.text.now)
