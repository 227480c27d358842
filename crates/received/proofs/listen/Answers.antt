-- `listen` meets its contract: rule 1 test by test, rule 2, and what reading gives.
use borrow.Author.Tests.{eq-eqb, ne_eqb, lt-ltb, le-ltb}
use mathlib.Core.Path.{◌≡◌, sym, refl, ap, ◌∙◌}
use mathlib.Core.Bool.{false}
use lib.ListN.{get_or}
use Rattle.context.proofs.States.{same_asked}
use Rattle.codes.specs.declared.state.State.TheVariants.{U0}
use Rattle.codes.specs.declared.protocol.Protocol.{Protocol}
use Rattle.codes.specs.Protocol.{discriminator}
use Rattle.message.specs.Reading.{read_message}
use Rattle.version.specs.Version.{protocol_of}
use Rattle.context.specs.States.{same}
use Rattle.received.specs.Received.{type_cause}
use Rattle.received.specs.Due.{due_of}
use Rattle.received.proofs.Lying.{read-within}
use Rattle.received.proofs.Rules.{Ours, due_typed, due_read, due_unread}
use Rattle.received.proofs.listen.Goals as goal

pub returns-then-eq : goal.returns-then-eq
unfolding due_of
returns-then-eq c = rw (sym (same_asked (c.args.context).state U0) ∙ sym c.eq.ensures ∙ c.if-eq.true)

pub returns-then-octets-lt2 : goal.returns-then-octets-lt2
unfolding due_of
returns-then-octets-lt2 c =
    let in-call : same c.args.context.state U0 ≡ false =
    sym (same_asked (c.args.context).state U0) ∙ sym c.eq.ensures ∙ c.if-eq.false in
    rw (in-call, lt-ltb _ _ c.if-octets-lt2.true)

pub returns-then-first-discriminator : goal.returns-then-first-discriminator
unfolding due_of
returns-then-first-discriminator c =
    let in-call : same c.args.context.state U0 ≡ false =
    sym (same_asked (c.args.context).state U0) ∙ sym c.eq.ensures ∙ c.if-eq.false in
    let asked : c.discriminator.result ≡ discriminator (protocol_of c.args.table) =
    c.discriminator.ensures ∙ ap discriminator c.protocol-protocol.ensures in
    rw (in-call, le-ltb _ _ c.if-octets-lt2.false, ne_eqb _ _ (λ e. c.if-first-discriminator.true (e ∙ sym (asked))))

pub returns-then-not-transaction_fits : goal.returns-then-not-transaction_fits
unfolding due_of
returns-then-not-transaction_fits c =
    let in-call : same c.args.context.state U0 ≡ false =
    sym (same_asked (c.args.context).state U0) ∙ sym c.eq.ensures ∙ c.if-eq.false in
    let asked : c.discriminator.result ≡ discriminator (protocol_of c.args.table) =
    c.discriminator.ensures ∙ ap discriminator c.protocol-protocol.ensures in
    rw (
      in-call,
      le-ltb _ _ c.if-octets-lt2.false,
      eq-eqb _ _ (c.if-first-discriminator.false ∙ asked),
      ← c.transaction_fits.ensures,
      c.if-not-transaction_fits.true,
    )

pub returns-then-cause-ne0 : goal.returns-then-cause-ne0
returns-then-cause-ne0 c =
    let in-call : same c.args.context.state U0 ≡ false =
    sym (same_asked (c.args.context).state U0) ∙ sym c.eq.ensures ∙ c.if-eq.false in
    let asked : c.discriminator.result ≡ discriminator (protocol_of c.args.table) =
    c.discriminator.ensures ∙ ap discriminator c.protocol-protocol.ensures in
    let ours : Ours (protocol_of c.args.table) c.args.context c.args.octets.now =
    record {
      calling = in-call;
      two = le-ltb _ _ c.if-octets-lt2.false;
      discriminated = eq-eqb _ _ (c.if-first-discriminator.false ∙ asked);
      transacted = sym c.transaction_fits.ensures ∙ c.if-not-transaction_fits.false;
    } in
    due_typed _ _ _ _ _ (ours) _ c.type_cause-cause.ensures c.if-cause-ne0.true

pub understand-requires : goal.understand-requires
understand-requires c =
    let read_is : read_message (protocol_of c.args.table) c.args.octets.now ≡ c.read.result =
    sym (c.read.ensures ∙ ap (λ (p : Protocol). read_message p c.args.octets.now) c.protocol-protocol.ensures) in
    read-within _ _ _ (read_is ∙ c.in-Ok.is)

pub returns : goal.returns
returns c =
    let in-call : same c.args.context.state U0 ≡ false =
    sym (same_asked (c.args.context).state U0) ∙ sym c.eq.ensures ∙ c.if-eq.false in
    let asked : c.discriminator.result ≡ discriminator (protocol_of c.args.table) =
    c.discriminator.ensures ∙ ap discriminator c.protocol-protocol.ensures in
    let ours : Ours (protocol_of c.args.table) c.args.context c.args.octets.now =
    record {
      calling = in-call;
      two = le-ltb _ _ c.if-octets-lt2.false;
      discriminated = eq-eqb _ _ (c.if-first-discriminator.false ∙ asked);
      transacted = sym c.transaction_fits.ensures ∙ c.if-not-transaction_fits.false;
    } in
    let typed : type_cause c.args.table c.args.context (get_or c.args.octets.now 1 0) ≡ 0 =
    sym c.type_cause-cause.ensures ∙ c.if-cause-ne0.false in
    let read_is : read_message (protocol_of c.args.table) c.args.octets.now ≡ c.read.result =
    sym (c.read.ensures ∙ ap (λ (p : Protocol). read_message p c.args.octets.now) c.protocol-protocol.ensures) in
    due_read _ _ _ _ _ (ours) (typed) _ _ _ c.protocol-protocol.ensures
    (read_is ∙ c.in-Ok.is) c.understand.ensures

pub returns-in_default : goal.returns-in_default
returns-in_default c =
    let in-call : same c.args.context.state U0 ≡ false =
    sym (same_asked (c.args.context).state U0) ∙ sym c.eq.ensures ∙ c.if-eq.false in
    let asked : c.discriminator.result ≡ discriminator (protocol_of c.args.table) =
    c.discriminator.ensures ∙ ap discriminator c.protocol-protocol.ensures in
    let ours : Ours (protocol_of c.args.table) c.args.context c.args.octets.now =
    record {
      calling = in-call;
      two = le-ltb _ _ c.if-octets-lt2.false;
      discriminated = eq-eqb _ _ (c.if-first-discriminator.false ∙ asked);
      transacted = sym c.transaction_fits.ensures ∙ c.if-not-transaction_fits.false;
    } in
    let typed : type_cause c.args.table c.args.context (get_or c.args.octets.now 1 0) ≡ 0 =
    sym c.type_cause-cause.ensures ∙ c.if-cause-ne0.false in
    let read_is : read_message (protocol_of c.args.table) c.args.octets.now ≡ c.read.result =
    sym (c.read.ensures ∙ ap (λ (p : Protocol). read_message p c.args.octets.now) c.protocol-protocol.ensures) in
    due_unread _ _ _ _ _ (ours) (typed) _ _ (read_is ∙ c.in_default.is) refl
