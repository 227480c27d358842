-- `read_immediate_setup` meets its contract. Where the classmark is counted, seven octets are there.
use mathlib.Core.Path.{◌∙◌}
use Rattle.message.specs.Reading.{immediate_identity_of, immediate_setup_of}
use Rattle.message.proofs.Bodies.{passed, classmark-there, counted-run, counted-fault}
use Rattle.message.proofs.kinds.read_immediate_setup.Goals as goal

pub returns-in_err-_classmark : goal.returns-in_err-_classmark
unfolding immediate_setup_of
returns-in_err-_classmark c =
    passed _ _ c.from_residual.ensures.1
    ∙ counted-fault c.args.octets.now 3 3 3 (λ classmark. immediate_identity_of c.args.octets.now) _ c.in_err-_classmark.ensures

pub read_immediate_identity-requires : goal.read_immediate_identity-requires
read_immediate_identity-requires c = classmark-there c.args.octets.now _ c.in_ok-_classmark.ensures

pub returns : goal.returns
unfolding immediate_setup_of
returns c =
    c.read_immediate_identity.ensures
    ∙ counted-run c.args.octets.now 3 3 3 (λ classmark. immediate_identity_of c.args.octets.now) _ c.in_ok-_classmark.ensures
