-- `find` meets its contract: the position that the chain finds is the place.
use Rattle.std.proofs.Common.{◌≡◌, ◌∙◌, sym, ap, length, eqb, rules, tests}
use Rattle.std.proofs.lemmas.Iterator.{YieldsList-from_slice}
use Rattle.std.proofs.lemmas.Iterator.Search.{position_from_yields_List}
use Rattle.std.specs.List.{position}
use Rattle.std.specs.Option.{unwrap_or}
use Rattle.text.proofs.Places.{position_else, place-position}
use Rattle.text.proofs.words.find.Goals as goal

pub returns-clause-value : goal.returns-clause-value
returns-clause-value c =
    let found : c.position.result ≡ position (λ x. eqb x c.args.byte) c.args.text.now = position_from_yields_List (λ x. eqb x c.args.byte) _ _ c.position.result c.position.ensures.ran (YieldsList-from_slice c.args.text.now cc) (λ x b q k. search (rules, tests)) in
    c.unwrap_or.ensures ∙ ap (λ p. unwrap_or p (length c.args.text.now)) found ∙ position_else (λ x. eqb x c.args.byte) c.args.text.now ∙ sym (place-position c.args.byte c.args.text.now)
